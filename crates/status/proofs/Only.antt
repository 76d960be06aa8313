-- No second answer: two outcomes that satisfy what a call promises are equal, for each public call.
-- Assumes nothing.
use Prim.Native.Nat.{ℕ}
use mathlib.Core.Path.{◌≡◌}
use mathlib.Core.List.{List}
use Rattle.std.specs.Prelude.{Result, ⊤}
use Rattle.laws.proofs.Only as laws
use Rattle.refusals.specs.declared.refusal.Refusal.{Refusal}
use Rattle.refusals.proofs.OnPaper.{answer_only, done_only}
use Rattle.status.specs.Encoded.{EncodedAs}
use Rattle.status.specs.DriveStatus.{drive_status_octets, DecodedDriveStatus}
use Rattle.status.specs.Response.{response_octets, DecodedResponse}
use Rattle.status.specs.declared.drive_status.DriveStatus.{DriveStatus}
use Rattle.status.specs.declared.response.Response.{Response}

pub decode_drive_status_only : (octets : List ℕ) (r s : Result DriveStatus Refusal) → DecodedDriveStatus octets r → DecodedDriveStatus octets s → r ≡ s
decode_drive_status_only octets r s p q = answer_only p.answer q.answer

pub decode_response_only : (octets : List ℕ) (r s : Result Response Refusal) → DecodedResponse octets r → DecodedResponse octets s → r ≡ s
decode_response_only octets r s p q = answer_only p.answer q.answer

encoded_only : {octets before after after' : List ℕ} {r s : Result ⊤ Refusal} → EncodedAs octets before after r → EncodedAs octets before after' s → (r ≡ s) × (after ≡ after')
encoded_only p q = (done_only p.answer q.answer, laws.answer_only p.slice q.slice)

pub encode_drive_status_only : (status : DriveStatus) (before after after' : List ℕ) (r s : Result ⊤ Refusal)
    → EncodedAs (drive_status_octets status) before after r → EncodedAs (drive_status_octets status) before after' s → (r ≡ s) × (after ≡ after')
encode_drive_status_only status before after after' r s = encoded_only

pub encode_response_only : (response : Response) (before after after' : List ℕ) (r s : Result ⊤ Refusal)
    → EncodedAs (response_octets response) before after r → EncodedAs (response_octets response) before after' s → (r ≡ s) × (after ≡ after')
encode_response_only response before after after' r s = encoded_only
