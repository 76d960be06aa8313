-- Wrong answers, two for each call: what a careless programmer would get, and no promise allows. The captures are document 01's own.
use Rattle.std.specs.Prelude.{ℕ, List, [], ◌∷◌, ◌++◌, Ok, Err, drop}
use Rattle.laws.specs.Lists.{table_from}
use Rattle.capture.specs.Record.{DecodedRecord, EncodedRecord}
use Rattle.capture.specs.Capture.{DecodedCapture, NotesGiven, RecordsGiven}
use Rattle.capture.specs.Encoding.{EncodedCapture}
use Rattle.capture.specs.Cases.{three_events, its_trailer, second_event}
use Rattle.refusals.specs.declared.refusal.Refusal.TheVariants.{SliceTooShort}

-- A lent slice of so many octets FF.
abbrev pub lent : ℕ → List ℕ
lent size = table_from (λ i. 0xFF) 0 size

pub record WrongAnswers : Type 0 where
  -- ---- decode_record
  -- The tick is high first: 00 05 is 5.
  pub tick_low_first : DecodedRecord (0x00 ∷ 0x05 ∷ 0x01 ∷ 0x01 ∷ 0x30 ∷ 0x00 ∷ 0x00 ∷ 0x00 ∷ [])
      (Ok (record { tick = 0x0500; port = 1; kind = 1; a0 = 0x30; a1 = 0; a2 = 0; a3 = 0 })) → ⊥
  -- A record and an octet more are long enough.
  pub ten_for_9_octets : DecodedRecord (lent 9) (Err SliceTooShort) → ⊥
  -- ---- encode_record
  -- Seven octets are too few: 10, and nothing is written.
  pub written_into_7 : EncodedRecord second_event (lent 7) (0x00 ∷ 0x05 ∷ 0x01 ∷ 0x01 ∷ 0x30 ∷ 0x00 ∷ 0x00 ∷ []) (Ok tt) → ⊥
  -- The argument octets stand in their order.
  pub arguments_changed_over : EncodedRecord second_event (lent 8) (0x00 ∷ 0x05 ∷ 0x01 ∷ 0x01 ∷ 0x00 ∷ 0x30 ∷ 0x00 ∷ 0x00 ∷ []) (Ok tt) → ⊥
  -- ---- decode_capture
  -- A distance of one record where there is none before the trailer: 14.
  pub record_too_far : DecodedCapture (0x00 ∷ 0x00 ∷ 0x00 ∷ 0x08 ∷ 0x49 ∷ 0x50 ∷ 0x49 ∷ 0x32 ∷ []) (Ok (record { first = 0; count = 1 })) → ⊥
  -- The mark is 49 50 49 32: 13.
  pub other_mark_taken : DecodedCapture (0x00 ∷ 0x00 ∷ 0x00 ∷ 0x00 ∷ 0x49 ∷ 0x50 ∷ 0x49 ∷ 0x33 ∷ []) (Ok (record { first = 0; count = 0 })) → ⊥
  -- ---- notes
  -- A capture that is refused has no notes.
  pub notes_of_a_refused : NotesGiven (lent 8) (lent 8) → ⊥
  -- The notes end where the first record starts: here it is EE alone.
  pub notes_into_a_record : NotesGiven (0xEE ∷ three_events ++ its_trailer) (0xEE ∷ 0x00 ∷ []) → ⊥
  -- ---- records
  -- The trailer is no record.
  pub trailer_taken_in : RecordsGiven (three_events ++ its_trailer) (three_events ++ its_trailer) → ⊥
  -- The first record is one of them.
  pub first_record_missing : RecordsGiven (three_events ++ its_trailer) (drop 8 three_events) → ⊥
  -- ---- encode_capture
  -- The distance is high first: 00 00 00 18.
  pub distance_low_first : EncodedCapture [] three_events (lent 32) (three_events ++ (0x18 ∷ 0x00 ∷ 0x00 ∷ 0x00 ∷ 0x49 ∷ 0x50 ∷ 0x49 ∷ 0x32 ∷ []))
      (Ok 32) → ⊥
  -- The records stand behind the notes, not over them.
  pub records_over_the_notes : EncodedCapture (0xEE ∷ []) three_events (lent 33) (three_events ++ its_trailer ++ (0xFF ∷ [])) (Ok 33) → ⊥
