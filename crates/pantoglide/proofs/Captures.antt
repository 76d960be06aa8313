-- Captures on numbers and slices: from what `capture` answers to the promises of `pg_capture` and `pg_make_capture`.
-- Assumes nothing.
use Prim.Native.Nat.{ℕ}
use mathlib.Core.Path.{refl, sym, ap}
use mathlib.Core.List.{List}
use Rattle.std.specs.Prelude.{Ok, Err}
use Rattle.refusals.specs.Refusal.{number}
use Rattle.refusals.specs.declared.refusal.Refusal.{Refusal}
use Rattle.refusals.proofs.OnPaper.{value_given, refusal_given, left_as_it_was}
use Rattle.capture.specs.Capture.{capture_rows, capture_in, DecodedCapture}
use Rattle.capture.specs.Encoding.{encode_rows, capture_length, EncodedCapture}
use Rattle.capture.specs.declared.capture.Capture.{Capture}
use Rattle.pantoglide.specs.Capture.{CaptureFound, CaptureMade}

pub found : {octets : List ℕ} {capture : Capture} {first₀ count₀ : ℕ} → DecodedCapture octets (Ok capture) → CaptureFound octets first₀ count₀ 0 capture.first capture.count
found {octets} d =
    let (free, same) = value_given (capture_rows octets) d.answer in
    record { refusal = sym free; first = ap (λ (c : Capture). c.first) same; count = ap (λ (c : Capture). c.count) same }

pub not_found : {octets : List ℕ} {refusal : Refusal} {first₀ count₀ : ℕ} → DecodedCapture octets (Err refusal) → CaptureFound octets first₀ count₀ (number refusal) first₀ count₀
not_found {octets} {refusal} d =
    let refused = refusal_given (capture_rows octets) refusal (capture_in octets) d.answer in
    record { refusal = sym refused; first = sym (left_as_it_was refusal _ refl); count = sym (left_as_it_was refusal _ refl) }

pub made : {notes records out₀ out₁ : List ℕ} {size size₀ : ℕ} → EncodedCapture notes records out₀ out₁ (Ok size)
    → CaptureMade notes records out₀ size₀ 0 out₁ size
made {notes} {records} {out₀} d =
    let (free, same) = value_given (encode_rows notes records out₀) d.answer in
    record { refusal = sym free; out = rw free at d.slice; size = same }

pub not_made : {notes records out₀ out₁ : List ℕ} {refusal : Refusal} {size₀ : ℕ} → EncodedCapture notes records out₀ out₁ (Err refusal)
    → CaptureMade notes records out₀ size₀ (number refusal) out₁ size₀
not_made {notes} {records} {out₀} {refusal = refusal} d =
    let refused = refusal_given (encode_rows notes records out₀) refusal (capture_length notes records) d.answer in
    record { refusal = sym refused; out = rw refused at d.slice; size = sym (left_as_it_was refusal _ refl) }
