-- No second answer: two outcomes that satisfy what a call promises are equal, for each public call.
-- Assumes nothing.
use Prim.Native.Nat.{ℕ}
use mathlib.Core.Path.{◌≡◌}
use mathlib.Core.List.{List}
use Rattle.std.specs.Prelude.{Result, ⊤}
use Rattle.laws.proofs.Only as laws
use Rattle.refusals.specs.declared.refusal.Refusal.{Refusal}
use Rattle.refusals.proofs.OnPaper.{answer_only, done_only}
use Rattle.capture.specs.Record.{DecodedRecord, EncodedRecord}
use Rattle.capture.specs.Capture.{DecodedCapture, NotesGiven, RecordsGiven}
use Rattle.capture.specs.Encoding.{EncodedCapture}
use Rattle.capture.specs.declared.«record».Record.{Record}
use Rattle.capture.specs.declared.capture.Capture.{Capture}

pub decode_record_only : (octets : List ℕ) (r s : Result Record Refusal) → DecodedRecord octets r → DecodedRecord octets s → r ≡ s
decode_record_only octets r s p q = answer_only p.answer q.answer

pub encode_record_only : (event : Record) (before after after' : List ℕ) (r s : Result ⊤ Refusal)
    → EncodedRecord event before after r → EncodedRecord event before after' s → (r ≡ s) × (after ≡ after')
encode_record_only event before after after' r s p q = (done_only p.answer q.answer, laws.answer_only p.slice q.slice)

pub decode_capture_only : (octets : List ℕ) (r s : Result Capture Refusal) → DecodedCapture octets r → DecodedCapture octets s → r ≡ s
decode_capture_only octets r s p q = answer_only p.answer q.answer

pub notes_only : (octets r s : List ℕ) → NotesGiven octets r → NotesGiven octets s → r ≡ s
notes_only octets r s p q = laws.answer_only p.notes q.notes

pub records_only : (octets r s : List ℕ) → RecordsGiven octets r → RecordsGiven octets s → r ≡ s
records_only octets r s p q = laws.answer_only p.records q.records

pub encode_capture_only : (notes records before after after' : List ℕ) (r s : Result ℕ Refusal)
    → EncodedCapture notes records before after r → EncodedCapture notes records before after' s → (r ≡ s) × (after ≡ after')
encode_capture_only notes records before after after' r s p q = (answer_only p.answer q.answer, laws.answer_only p.slice q.slice)
