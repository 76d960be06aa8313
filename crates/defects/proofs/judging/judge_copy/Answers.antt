-- `defects::judging::judge_copy` meets its contract: the octets are compared first, the count between them is not.
-- Assumes nothing.
use Prim.Native.Nat.{ℕ, ◌-◌, ◌≤◌}
use mathlib.Core.Path.{◌≡◌}
use native.Mathlib.Omega.{arith}
use mathlib.Core.List.{List}
use lib.ListN.{length}
use Rattle.std.proofs.Math.Option.{Option}
use Rattle.defects.specs.Offence.{Found, first_of, tests_over}
use Rattle.defects.specs.Judging.{same_test}
use Rattle.defects.proofs.Offences.{one_holds, one_passed, stops, goes_on, passed_on}
use Rattle.defects.proofs.judging.judge_copy.Goals as goal

up_to_crc : (start : ℕ) (field original : List ℕ) → 6 ≤ length field → {x : Option Found} → x ≡ first_of (tests_over (same_test start field original) 4 (length field - 4 - 2))
    → x ≡ first_of (tests_over (same_test start field original) 4 (length field - 6))
up_to_crc start field original h e =
    let left : length field - 4 - 2 ≡ length field - 6 = omega arith in
    rw (← left) e

pub returns-in_err-judge_alike : goal.returns-in_err-judge_alike
returns-in_err-judge_alike c = rw (passed_on c.from_residual.ensures) (stops _ _ (stops _ _ c.in_err-judge_alike.ensures))

pub returns-in_err-refuse_if : goal.returns-in_err-refuse_if
returns-in_err-refuse_if c = rw (passed_on c.from_residual-in_err-refuse_if.ensures) (stops _ _ (goes_on _ _ c.in_ok-judge_alike.ensures (one_holds _ _ c.in_err-refuse_if.ensures)))

pub returns-in_err-judge_alike-2 : goal.returns-in_err-judge_alike-2
returns-in_err-judge_alike-2 c =
    rw (passed_on c.from_residual-in_err-judge_alike-2.ensures)
    (stops _ _ (goes_on _ _ c.in_ok-judge_alike.ensures (one_passed _ _ c.in_ok-refuse_if.ensures (up_to_crc _ _ _ (omega arith) c.in_err-judge_alike-2.ensures))))

pub returns : goal.returns
returns c =
    goes_on _ _ (goes_on _ _ c.in_ok-judge_alike.ensures (one_passed _ _ c.in_ok-refuse_if.ensures (up_to_crc _ _ _ (omega arith) c.in_ok-judge_alike-2.ensures))) c.judge_crc.ensures
