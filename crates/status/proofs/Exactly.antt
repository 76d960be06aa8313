-- Each refusal of each call is given exactly when its row holds and no row tested earlier does.
-- Assumes nothing.
use Prim.Native.Nat.{ℕ, suc}
use mathlib.Core.Path.{◌≡◌}
use mathlib.Core.List.{List}
use mathlib.Core.Logic.{◌↔◌}
use Rattle.laws.specs.Rows.{Given}
use Rattle.status.specs.Encoded.{EncodedAs, encode_rows}
use Rattle.status.specs.DriveStatus.{drive_status_octets, drive_status_rows, DecodedDriveStatus}
use Rattle.status.specs.Response.{response_octets, response_rows, DecodedResponse}
use Rattle.std.specs.Prelude.{Result, ⊤}
use Rattle.refusals.specs.Refusal.{refusal_in}
use Rattle.refusals.specs.declared.refusal.Refusal.{Refusal}
use Rattle.refusals.proofs.OnPaper.{exactly_on_paper, done_exactly}
use Rattle.status.specs.declared.drive_status.DriveStatus.{DriveStatus}
use Rattle.status.specs.declared.response.Response.{Response}

pub decode_drive_status_exactly : (n : ℕ) (octets : List ℕ) (r : Result DriveStatus Refusal) → DecodedDriveStatus octets r
    → refusal_in r ≡ suc n ↔ Given (suc n) (drive_status_rows octets)
decode_drive_status_exactly n octets r d = exactly_on_paper (drive_status_rows octets) _ r d.answer n

pub decode_response_exactly : (n : ℕ) (octets : List ℕ) (r : Result Response Refusal) → DecodedResponse octets r
    → refusal_in r ≡ suc n ↔ Given (suc n) (response_rows octets)
decode_response_exactly n octets r d = exactly_on_paper (response_rows octets) _ r d.answer n

encoded_exactly : (n : ℕ) (octets before after : List ℕ) (r : Result ⊤ Refusal) → EncodedAs octets before after r
    → refusal_in r ≡ suc n ↔ Given (suc n) (encode_rows octets before)
encoded_exactly n octets before after r e = done_exactly (encode_rows octets before) r e.answer n

pub encode_drive_status_exactly : (n : ℕ) (status : DriveStatus) (before after : List ℕ) (r : Result ⊤ Refusal) → EncodedAs (drive_status_octets status) before after r
    → refusal_in r ≡ suc n ↔ Given (suc n) (encode_rows (drive_status_octets status) before)
encode_drive_status_exactly n status = encoded_exactly n (drive_status_octets status)

pub encode_response_exactly : (n : ℕ) (response : Response) (before after : List ℕ) (r : Result ⊤ Refusal) → EncodedAs (response_octets response) before after r
    → refusal_in r ≡ suc n ↔ Given (suc n) (encode_rows (response_octets response) before)
encode_response_exactly n response = encoded_exactly n (response_octets response)
