-- Records and captures and their decodings undo each other: `specs/RoundTrip` proved.
-- Assumes nothing.
use Prim.Native.Nat.{ℕ, ◌+◌, ◌-◌, ◌/◌, ◌%◌, ◌^◌, ◌<◌, ◌≤◌}
use mathlib.Core.Path.{◌≡◌, refl, sym, ap, ap₂, ◌∙◌}
use mathlib.Core.Bool.{not, ◌||◌, false}
use mathlib.Core.List.{List, ◌++◌, append_assoc}
use native.Mathlib.Omega.{arith}
use borrow.Author.Tests.{le-ltb, ltb-false, lt-leb, leb-false, eq-eqb, eqb-true, not-false}
use lib.Dec.{eqb, ltb, leb}
use lib.ListN.{length, take, drop, length-drop, take-append-drop}
use lib.Seq.{length-take-le, take-add, take_at, take-append_seam, drop-append_seam}
use Rattle.laws.specs.Lists.{written_over}
use Rattle.laws.specs.Octets.{AllOctets}
use Rattle.capture.specs.Record.{record_octets, record_rows, DecodedRecord, EncodedRecord}
use Rattle.capture.specs.Capture.{distance_of, first_record, capture_rows, DecodedCapture, NotesGiven, RecordsGiven}
use Rattle.capture.specs.Encoding.{trailer_for, capture_octets, capture_length, encode_rows, EncodedCapture}
use Rattle.capture.specs.RoundTrip.{RecordRoundTrip, CaptureRoundTrip}
use Rattle.capture.specs.declared.«record».Record.{Record}
use Rattle.std.specs.Prelude.{Result, Ok, ⊤}
use Rattle.refusals.specs.declared.refusal.Refusal.{Refusal}
use Rattle.refusals.proofs.OnPaper.{value_given, done, paper_only}
use Rattle.laws.proofs.Tests.{or_l, or_r}
use Rattle.laws.proofs.Rows.{none_given, all_passed}
use Rattle.capture.proofs.Decoding.{Whole, whole, whole_parts}
use Rattle.capture.proofs.RecordOctets.{octets_of_record, record_of_octets}
use Rattle.capture.proofs.Trailer.{distance_held, same_trailer, length_capture, distance_of_capture, capture_has_mark}

-- ---- a record

has_written : {event : Record} {before after : List ℕ} {answer : Result ⊤ Refusal} → 8 ≤ length before → EncodedRecord event before after answer
    → (answer ≡ Ok tt) × (after ≡ written_over before (record_octets event))
has_written {event} {before} h e =
    let free = none_given (record_rows before) (le-ltb _ _ h, tt) in
    (done (e.answer ∙ free), e.slice ∙ rw free)

decoded_octets : (octets : List ℕ) (event : Record) → AllOctets octets → DecodedRecord octets (Ok event) → record_octets event ≡ take 8 octets
decoded_octets octets event all d =
    let (free, same) = value_given (record_rows octets) d.answer in
    let (long, end) = all_passed (record_rows octets) refl free in
    rw same (octets_of_record octets (ltb-false _ _ long) all)

encoded_record : (event : Record) (rest : List ℕ) → event.tick < 2 ^ 16 → DecodedRecord (record_octets event ++ rest) (Ok event)
encoded_record event rest h =
    let octets = record_octets event ++ rest in
    let free = none_given (record_rows octets) (le-ltb (length octets) 8 (omega arith), tt) in
    record { answer = rw (free, record_of_octets event rest h) }

pub record_round_trip : RecordRoundTrip
record_round_trip =
    record {
      encode_decode = λ octets before after event answer all d h e. rw (← (decoded_octets octets event all d)) (has_written h e);
      decode_encode = λ before after event answer small h e. let (is, slice) = has_written h e in (is, rw slice (encoded_record event (drop 8 before) small));
    }

-- ---- a capture, taken apart and put together again

module _ (octets notes records : List ℕ) (first count : ℕ) (all : AllOctets octets) (w : Whole octets first count) (n : NotesGiven octets notes) (r : RecordsGiven octets records) where
  notes_are : notes ≡ take first octets
  notes_are = n.notes ∙ (whole_parts w).0

  records_are : records ≡ take (length octets - 8 - first) (drop first octets)
  records_are = r.records ∙ (whole_parts w).1

  records_distance : length records ≡ distance_of octets
  records_distance =
      ap length records_are
      ∙ length-take-le (length octets - 8 - first) (drop first octets) (simp length-drop (omega arith))
      ∙ omega (arith, w.within, w.starts)

  same_capture : capture_octets notes records ≡ octets
  same_capture =
      let size = length octets - 8 - first in
      let reach : first + size ≡ length octets - 8 = omega (arith, w.starts) in
      let front = ap₂ ◌++◌ notes_are records_are ∙ sym (take-add first size octets) ∙ ap (λ (n : ℕ). take n octets) reach in
      let back = ap trailer_for records_distance ∙ same_trailer octets w.long all w.marked in
      ap₂ ◌++◌ front back ∙ take-append-drop (length octets - 8) octets

  encoded_again : (before after : List ℕ) (answer : Result ℕ Refusal) → length octets ≤ length before
      → EncodedCapture notes records before after answer → (answer ≡ Ok (length octets)) × (after ≡ written_over before octets)
  encoded_again before after answer h e =
      let long : capture_length notes records ≡ length octets = sym (length_capture notes records) ∙ ap length same_capture in
      let even : length records % 8 ≡ 0 = ap (λ (n : ℕ). n % 8) records_distance ∙ w.even in
      let held : length records < 256 ^ 4 = rw records_distance (distance_held octets w.long all) in
      let fit : (not (eqb (length records % 8) 0) || leb (256 ^ 4) (length records)) ≡ false = rw (eq-eqb _ _ even, lt-leb _ _ held) in
      let free = none_given (encode_rows notes records before) (le-ltb (length before) (capture_length notes records) (rw long h), (fit, tt)) in
      (paper_only (e.answer ∙ rw (free, long)), e.slice ∙ rw (free, same_capture))

-- ---- a capture, put together and taken apart again

module _ (notes records : List ℕ) (even : length records % 8 ≡ 0) (held : length records < 256 ^ 4) where
  decoded_again : DecodedCapture (capture_octets notes records) (Ok (record { first = length notes; count = length records / 8 }))
  decoded_again =
      let octets = capture_octets notes records in
      let long = length_capture notes records in
      let distance = distance_of_capture notes records held in
      let starts : first_record octets ≡ length notes = omega arith in
      let fit : (not (eqb (distance_of octets % 8) 0) || ltb (length octets - 8) (distance_of octets)) ≡ false =
      rw (distance, eq-eqb _ _ even) (le-ltb (length octets - 8) (length records) (omega arith)) in
      let free = none_given (capture_rows octets) (le-ltb (length octets) 8 (omega arith), (rw (capture_has_mark notes records), (fit, tt))) in
      record { answer = rw (free, starts, distance) }

  parts_again : NotesGiven (capture_octets notes records) notes × RecordsGiven (capture_octets notes records) records
  parts_again =
      let octets = capture_octets notes records in
      let trailer = trailer_for (length records) in
      let (n, r) = whole_parts (whole decoded_again) in
      let size : length octets - 8 - length notes ≡ length records = omega (arith, length_capture notes records) in
      let split = append_assoc notes records trailer in (
        record { notes = sym (n ∙ rw split (take-append_seam notes (records ++ trailer))) },
        record { records = sym (r ∙ rw (size, split, drop-append_seam notes (records ++ trailer)) (take-append_seam records trailer)) },
      )

taken_apart : (notes records before after : List ℕ) (size : ℕ) → EncodedCapture notes records before after (Ok size)
    → let octets = take size after in
    DecodedCapture octets (Ok (record { first = length notes; count = length records / 8 })) × NotesGiven octets notes × RecordsGiven octets records
taken_apart notes records before after size e =
    let octets = capture_octets notes records in
    let (free, is) = value_given (encode_rows notes records before) e.answer in
    let (room, (fit, end)) = all_passed (encode_rows notes records before) refl free in
    let whole_records : not (eqb (length records % 8) 0) ≡ false = search or_l in
    let within : leb (256 ^ 4) (length records) ≡ false = search or_r in
    let even : length records % 8 ≡ 0 = eqb-true _ _ (not-false _ whole_records) in
    let held : length records < 256 ^ 4 = leb-false _ _ within in
    let sized : length octets ≡ size = length_capture notes records ∙ sym is in
    let slice : after ≡ written_over before octets = e.slice ∙ rw free in
    let taken : take size after ≡ octets = rw slice (take_at octets (drop (length octets) before) size sized) in
    let parts = parts_again notes records even held in
    rw taken (decoded_again notes records even held, parts.0, parts.1)

pub capture_round_trip : CaptureRoundTrip
capture_round_trip =
    record {
      encode_decode = λ octets notes records before after found answer all d n r h e.
          encoded_again octets notes records found.first found.count all (whole d) n r before after answer h e;
      decode_encode = taken_apart;
    }
