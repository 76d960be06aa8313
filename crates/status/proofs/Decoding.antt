-- From what a decoder answers to its promise: what it says is said by the octets that it read.
-- Assumes nothing.
use Prim.Native.Nat.{ℕ}
use mathlib.Core.Path.{◌≡◌, refl, sym, ◌∙◌}
use mathlib.Core.Bool.{true}
use mathlib.Core.List.{List}
use borrow.Author.Tests.{ltb-false, not-false}
use lib.ListN.{get_or}
use Rattle.std.specs.Prelude.{Result, Ok, Err}
use Rattle.laws.specs.Pick.{pick}
use Rattle.laws.specs.Rows.{refused_or}
use Rattle.laws.proofs.Lists.{each_one_of}
use Rattle.laws.proofs.Rows.{all_passed}
use Rattle.laws.proofs.Runs.{run_read}
use Rattle.refusals.specs.Refusal.{on_paper}
use Rattle.refusals.specs.declared.refusal.Refusal.{Refusal}
use Rattle.refusals.proofs.OnPaper.{value_given}
use Rattle.status.specs.DriveStatus.{octet_of, known_octets, status_of, is_drive_status, drive_status_rows, DecodedDriveStatus}
use Rattle.status.specs.Response.{response_of, response_rows, DecodedResponse}
use Rattle.status.specs.declared.drive_status.DriveStatus.{DriveStatus}
use Rattle.status.specs.declared.response.Response.{Response}
use Rattle.status.proofs.Foreign.{own_octets}

pub octet_of_status : (octet : ℕ) → is_drive_status octet ≡ true → octet_of (status_of octet) ≡ octet
unfolding is_drive_status status_of pick
octet_of_status octet h = each_one_of (λ n. octet_of (status_of n) ≡ n) known_octets octet h (refl, (refl, (refl, (refl, (refl, tt)))))

pub drive_status_decoded : {octets : List ℕ} {r : Result DriveStatus Refusal} → on_paper r ≡ refused_or (drive_status_rows octets) (status_of (get_or octets 0 0))
    → DecodedDriveStatus octets r
drive_status_decoded {octets} {r = Ok status} e =
    let given = value_given (drive_status_rows octets) e in
    let passed = all_passed (drive_status_rows octets) refl given.0 in
    record { answer = e; octet = rw given.1 (octet_of_status (get_or octets 0 0) (not-false _ passed.1.0)) }
drive_status_decoded {r = Err refusal} e = record { answer = e; octet = tt }

pub response_decoded : {octets : List ℕ} {r : Result Response Refusal}
    → on_paper r ≡ refused_or (response_rows octets) (response_of (get_or octets 1 0) (get_or octets 2 0)) → DecodedResponse octets r
response_decoded {octets} {r = Ok response} e =
    let given = value_given (response_rows octets) e in
    let passed = all_passed (response_rows octets) refl given.0 in
    record { answer = e; octets_told = rw given.1 (own_octets octets passed.1.0 ∙ sym (run_read octets 0 8 (ltb-false _ _ passed.0))) }
response_decoded {r = Err refusal} e = record { answer = e; octets_told = tt }
