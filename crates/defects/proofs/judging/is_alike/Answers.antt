-- `defects::judging::is_alike` meets its contract: as long as all octets were alike, the tests left are all that can hold.
-- Assumes nothing.
use Prim.Native.Nat.{ℕ, ◌+◌, ◌-◌}
use mathlib.Core.Path.{◌≡◌, sym, ap}
use native.Mathlib.Omega.{arith}
use lib.Dec.{eqb}
use lib.ListN.{get_or}
use Rattle.laws.proofs.Pick.{not_f}
use Rattle.laws.proofs.Tests.{and_l, and_r}
use Rattle.defects.specs.Offence.{first_of, tests_over}
use Rattle.defects.specs.Judging.{same_test}
use Rattle.defects.proofs.Offences.{over_next, over_end, one_fails}
use Rattle.defects.proofs.judging.is_alike.Goals as goal

pub loop-i-init : goal.loop-i-init
loop-i-init c =
    let a = c.args in
    let all : a.count ≡ a.from + a.count - a.from = omega arith in
    λ begin h. ap (λ (n : ℕ). first_of (tests_over (same_test begin a.octets.now a.original.now) a.from n)) all

pub loop-i-preserved : goal.loop-i-preserved
loop-i-preserved c =
    let i = c.loop-i.i in
    let same = eqb (get_or c.args.octets.now i 0) (get_or c.args.original.now i 0) in
    λ begin h. over_next _ i _ _ c.loop-i-test.true (one_fails _ (not_f same (and_r c.loop-i.alike same h))) (c.loop-i.invariant begin (and_l c.loop-i.alike same h))

pub returns : goal.returns
returns c = λ begin h. sym (over_end _ c.loop-i.i _ _ (omega arith) (c.loop-i.invariant begin h))
