-- `specs/CallRoundTrip` proved: octets that list whole defects are the value of a map, which is told again.
-- Assumes nothing.
use Prim.Native.Nat.{ℕ, ◌*◌, ◌/◌, ◌%◌, ◌≤◌}
use mathlib.Core.Path.{◌≡◌, refl, sym, ◌∙◌}
use mathlib.Core.Bool.{true, false, not, ◌||◌}
use mathlib.Core.List.{List}
use native.Mathlib.Omega.{arith}
use borrow.Author.Tests.{ltb-false, eqb-true, not-false}
use lib.Dec.{eqb}
use lib.ListN.{length, take, drop}
use lib.Seq.{take_at}
use Rattle.laws.specs.Lists.{written_over}
use Rattle.laws.specs.Octets.{AllOctets}
use Rattle.std.specs.Prelude.{Result, Ok}
use Rattle.std.proofs.Math.Option.{Option}
use Rattle.laws.proofs.Rows.{none_given, all_passed}
use Rattle.refusals.proofs.OnPaper.{value_given}
use Rattle.laws.proofs.Tests.{or_l, or_r}
use Rattle.parts.specs.Setup.{within_limits}
use Rattle.parts.specs.declared.setup.Setup.{Setup}
use Rattle.defects.specs.Defect.{list_octets}
use Rattle.defects.specs.Place.{field_octets, data_fields}
use Rattle.defects.specs.Decoding.{map_told, decode_offence, defects_of, map_of, DecodedMap}
use Rattle.defects.specs.Encoding.{Value, defects_listed, map_octets, is_encodable, encode_rows, EncodedMap}
use Rattle.defects.specs.RoundTrip.{tells_of}
use Rattle.defects.specs.Sectors.{last_cylinder, read_offence, ReadMap, write_rows, WroteMap}
use Rattle.defects.specs.OnTheCylinder.{CanBePut, with_map}
use Rattle.defects.specs.CallRoundTrip.{CallRoundTrip}
use Rattle.defects.specs.declared.decoding.MapRead.{MapRead}
use Rattle.defects.specs.declared.offence.Offence.{Offence}
use Rattle.defects.specs.Offence.{Found, found_on_paper, offence_or, unless_found}
use Rattle.defects.proofs.Answers.{value_told}
use Rattle.defects.proofs.Only.{found_only}
use Rattle.defects.proofs.EncodableValue.{encodable}
use Rattle.defects.proofs.EncodedMap.{length-map}
use Rattle.defects.proofs.Listed.{length_listed, all_fitting, same_octets}
use Rattle.defects.proofs.OnTheCylinder.{on_the_cylinder}
use Rattle.defects.proofs.RoundTrip.{map_round_trip}

-- ---- octets that list whole defects, and a storage track

abbrev value_listed : ℕ → ℕ → List ℕ → Value
value_listed cylinder head defects = record { cylinder = cylinder; head = head; defects = defects_listed defects }

module _ (s : Setup) (cylinder head : ℕ) (defects : List ℕ) where
  -- what row 8 leaves
  whole_defects : (not (eqb (length defects % 12) 0) || not (is_encodable s (value_listed cylinder head defects))) ≡ false
      → (length defects % 12 ≡ 0) × (is_encodable s (value_listed cylinder head defects) ≡ true)
  whole_defects e = (eqb-true _ _ (not-false _ (or_l _ _ e)), not-false _ (or_r (not (eqb (length defects % 12) 0)) _ e))

  count : length (defects_listed defects) ≡ length defects / 12
  count = length_listed defects 0 (length defects / 12)

  module _ (all : AllOctets defects) where
    -- what tells the value's map gives the octets back
    told_again : (o : Option Found) (octets lent lent' : List ℕ) (r : Result MapRead Offence) → length defects % 12 ≡ 0
        → (offence_or o (map_of s octets) ≡ Ok (tells_of (value_listed cylinder head defects))) × (defects_of s octets ≡ defects_listed defects)
        → found_on_paper r ≡ offence_or o (map_of s octets)
        → lent' ≡ unless_found o lent (written_over lent (list_octets (defects_of s octets)))
        → (r ≡ Ok (map_told (length defects / 12) cylinder head)) × (lent' ≡ written_over lent defects)
    told_again o octets lent lent' r whole (told, listed) answer slice =
        let (free, is) = value_told o (map_of s octets) (tells_of (value_listed cylinder head defects)) (sym told) in
        (found_only answer (sym (told ∙ rw count)), slice ∙ rw (free, listed, same_octets defects all whole))

    decoded_again : (before after lent lent' : List ℕ) (size : ℕ) (r : Result MapRead Offence) → EncodedMap s cylinder head defects before after (Ok size)
        → size / 3 ≤ length lent → DecodedMap s (take size after) lent lent' r
        → (r ≡ Ok (map_told (length defects / 12) cylinder head)) × (lent' ≡ written_over lent defects)
    decoded_again before after lent lent' size r e room d =
        let v = value_listed cylinder head defects in
        let octets = map_octets s v in
        let rows = encode_rows s cylinder head defects (length before) in
        let (none, same_size) = value_given rows e.answer in
        let passed = all_passed rows refl none in
        let (limits, (long, (fit, end))) = passed in
        let (whole, value) = whole_defects fit in
        let small = not-false (within_limits s) limits in
        let fitting = all_fitting defects all 0 (length defects / 12) in
        let sized : length octets ≡ size = length-map s v (encodable s v small value fitting).field1 ∙ rw count (sym same_size) in
        let slice : after ≡ written_over before octets = e.slice ∙ rw (none_given rows passed) in
        let taken : take size after ≡ octets = rw slice (take_at octets (drop (length octets) before) size sized) in
        let decoded : DecodedMap s octets lent lent' r = rw taken at d in
        let again = map_round_trip.decode_encode s v lent small value fitting (omega arith) in
        told_again (decode_offence s octets lent) octets lent lent' r whole again decoded.answer decoded.slice

    read_again : (before after lent lent' : List ℕ) (r : Result MapRead Offence) → WroteMap s cylinder head defects before after (Ok tt)
        → data_fields s * field_octets s / 3 ≤ length lent → ReadMap s after lent lent' r
        → (r ≡ Ok (map_told (length defects / 12) cylinder head)) × (lent' ≡ written_over lent defects)
    read_again before after lent lent' r e room d =
        let v = value_listed cylinder head defects in
        let rows = write_rows s cylinder head defects before in
        let passed = all_passed rows refl (sym e.answer) in
        let (limits, (long, (fit, end))) = passed in
        let (whole, value) = whole_defects fit in
        let put : CanBePut s v before =
        record { limits = not-false (within_limits s) limits; room = ltb-false _ _ long; value = value; fitting = all_fitting defects all 0 (length defects / 12) } in
        let sectors : after ≡ with_map s v before = e.sectors ∙ rw (none_given rows passed, count) in
        let read : ReadMap s (with_map s v before) lent lent' r = rw sectors at d in
        let again = on_the_cylinder.read_after_write s v before lent put room in
        told_again (read_offence s (with_map s v before) lent) (last_cylinder s (with_map s v before)) lent lent' r whole again read.answer read.slice

pub call_round_trip : CallRoundTrip
call_round_trip =
    record {
      decode_encode = λ s cylinder head defects before after lent lent' size r all e room d. decoded_again s cylinder head defects all before after lent lent' size r e room d;
      read_write = λ s cylinder head defects before after lent lent' r all e room d. read_again s cylinder head defects all before after lent lent' r e room d;
    }
