-- Each refusal of each call is given exactly when its row holds and no row tested earlier does. `notes` and `records` report no
-- number: they hand back nothing where `decode_capture` refuses.
-- Assumes nothing.
use Prim.Native.Nat.{ℕ, suc}
use mathlib.Core.Path.{◌≡◌}
use mathlib.Core.List.{List}
use mathlib.Core.Logic.{◌↔◌}
use Rattle.std.specs.Prelude.{Result, ⊤}
use Rattle.laws.specs.Rows.{Given}
use Rattle.refusals.specs.Refusal.{refusal_in}
use Rattle.refusals.specs.declared.refusal.Refusal.{Refusal}
use Rattle.refusals.proofs.OnPaper.{exactly_on_paper, done_exactly}
use Rattle.capture.specs.Record.{record_rows, DecodedRecord, EncodedRecord}
use Rattle.capture.specs.Capture.{capture_rows, DecodedCapture}
use Rattle.capture.specs.Encoding.{encode_rows, EncodedCapture}
use Rattle.capture.specs.declared.«record».Record.{Record}
use Rattle.capture.specs.declared.capture.Capture.{Capture}

pub decode_record_exactly : (n : ℕ) (octets : List ℕ) (r : Result Record Refusal) → DecodedRecord octets r
    → refusal_in r ≡ suc n ↔ Given (suc n) (record_rows octets)
decode_record_exactly n octets r d = exactly_on_paper (record_rows octets) _ r d.answer n

pub encode_record_exactly : (n : ℕ) (event : Record) (before after : List ℕ) (r : Result ⊤ Refusal) → EncodedRecord event before after r
    → refusal_in r ≡ suc n ↔ Given (suc n) (record_rows before)
encode_record_exactly n event before after r e = done_exactly (record_rows before) r e.answer n

pub decode_capture_exactly : (n : ℕ) (octets : List ℕ) (r : Result Capture Refusal) → DecodedCapture octets r
    → refusal_in r ≡ suc n ↔ Given (suc n) (capture_rows octets)
decode_capture_exactly n octets r d = exactly_on_paper (capture_rows octets) _ r d.answer n

pub encode_capture_exactly : (n : ℕ) (notes records before after : List ℕ) (r : Result ℕ Refusal) → EncodedCapture notes records before after r
    → refusal_in r ≡ suc n ↔ Given (suc n) (encode_rows notes records before)
encode_capture_exactly n notes records before after r e = exactly_on_paper (encode_rows notes records before) _ r e.answer n
