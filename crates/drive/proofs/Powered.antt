-- What a power-up that kept its promise has tested: a refusal its row, and a drive every row.
-- Assumes nothing.
use Prim.Native.Nat.{ℕ}
use mathlib.Core.Path.{◌≡◌, refl}
use mathlib.Core.Bool.{true, false}
use mathlib.Core.List.{List}
use borrow.Author.Tests.{not-false}
use Rattle.std.specs.Prelude.{Ok, Err}
use Rattle.laws.specs.Rows.{first}
use Rattle.laws.proofs.Rows.{all_passed}
use Rattle.refusals.specs.Refusal.{number}
use Rattle.refusals.proofs.OnPaper.{value_given, refusal_given}
use Rattle.refusals.specs.declared.refusal.Refusal.{Refusal}
use Rattle.parts.specs.Setup.{within_limits}
use Rattle.parts.specs.declared.setup.Setup.{Setup}
use Rattle.drive.specs.Refusal.{row10}
use Rattle.drive.specs.Power.{at_rest, power_up_rows, PoweredUp}
use Rattle.drive.specs.declared.drive.Drive.{Drive}

pub row_refused : {s : Setup} {sectors staging : List ℕ} {refusal : Refusal} → PoweredUp s sectors staging (Err refusal)
    → first (power_up_rows s sectors staging) ≡ number refusal
row_refused {s} {sectors} {staging} {refusal} p = refusal_given (power_up_rows s sectors staging) refusal (at_rest s) p.answer

pub record AtRest (s : Setup) (sectors staging : List ℕ) (d : Drive) : Type 0 where
  pub drive : d ≡ at_rest s
  pub limits : within_limits s ≡ true
  pub room : row10 s sectors staging ≡ false

pub risen : {s : Setup} {sectors staging : List ℕ} {d : Drive} → PoweredUp s sectors staging (Ok d) → AtRest s sectors staging d
risen {s} {sectors} {staging} p =
    let given = value_given (power_up_rows s sectors staging) p.answer in
    let passed = all_passed (power_up_rows s sectors staging) refl given.0 in
    record { drive = given.1; limits = not-false (within_limits s) passed.0; room = passed.1.0 }
