-- `defects::front::judge_front` meets its contract: an opening and a later set have rows of their own.
-- Assumes nothing.
use borrow.Author.Tests.{eq-eqb, ne_eqb}
use Rattle.laws.specs.Pick.{pick}
use Rattle.defects.specs.Judging.{front_tests}
use Rattle.defects.proofs.Offences.{one_holds, one_passed, passed_on}
use Rattle.defects.proofs.front.judge_front.Goals as goal

pub returns-in_err-refuse_if : goal.returns-in_err-refuse_if
unfolding front_tests
returns-in_err-refuse_if c = rw (passed_on c.from_residual.ensures) (one_holds _ _ c.in_err-refuse_if.ensures)

pub returns-then-walk-eq0 : goal.returns-then-walk-eq0
unfolding front_tests pick
returns-then-walk-eq0 c = one_passed _ _ c.in_ok-refuse_if.ensures (rw (eq-eqb _ _ c.if-walk-eq0.true) c.judge_opening.ensures)

pub returns : goal.returns
unfolding front_tests pick
returns c = one_passed _ _ c.in_ok-refuse_if.ensures (rw (ne_eqb _ _ c.if-walk-eq0.false) c.judge_later.ensures)
