-- `defects::judging::judge_each` meets its contract: the first octet that differs is the one that the loop stops at.
-- Assumes nothing.
use Prim.Native.Nat.{ℕ, ◌+◌, ◌-◌}
use mathlib.Core.Path.{◌≡◌, ap}
use native.Mathlib.Omega.{arith}
use Rattle.defects.specs.Offence.{first_of, tests_over}
use Rattle.defects.specs.Judging.{same_test}
use Rattle.defects.proofs.Offences.{over_next, over_hit, over_end, passed_on}
use Rattle.defects.proofs.judging.judge_each.Goals as goal

pub loop-i-init : goal.loop-i-init
loop-i-init c =
    let a = c.args in
    let all : a.count ≡ a.from + a.count - a.from = omega arith in
    ap (λ (n : ℕ). first_of (tests_over (same_test a.field.start a.field.octets.now a.original.now) a.from n)) all

pub returns-in_err-refuse_if : goal.returns-in_err-refuse_if
returns-in_err-refuse_if c = rw (passed_on c.from_residual.ensures) (over_hit _ c.loop-i.i _ _ c.loop-i-test.true c.in_err-refuse_if.ensures c.loop-i.invariant)

pub loop-i-preserved : goal.loop-i-preserved
loop-i-preserved c = over_next _ c.loop-i.i _ _ c.loop-i-test.true c.in_ok-refuse_if.ensures c.loop-i.invariant

pub returns : goal.returns
returns c = over_end _ c.loop-i.i _ _ (omega arith) c.loop-i.invariant
