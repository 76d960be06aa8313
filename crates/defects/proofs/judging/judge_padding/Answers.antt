-- `defects::judging::judge_padding` meets its contract: the first octet that is not zero is the one that the loop stops at.
-- Assumes nothing.
use native.Mathlib.Omega.{arith}
use Rattle.defects.proofs.Offences.{over_next, over_hit, over_end, passed_on}
use Rattle.defects.proofs.judging.judge_padding.Goals as goal

pub returns-in_err-refuse_if : goal.returns-in_err-refuse_if
returns-in_err-refuse_if c = rw (passed_on c.from_residual.ensures) (over_hit _ c.loop-i.i _ _ c.loop-i-test.true c.in_err-refuse_if.ensures c.loop-i.invariant)

pub loop-i-preserved : goal.loop-i-preserved
loop-i-preserved c = over_next _ c.loop-i.i _ _ c.loop-i-test.true c.in_ok-refuse_if.ensures c.loop-i.invariant

pub returns : goal.returns
returns c = over_end _ c.loop-i.i _ _ (omega arith) c.loop-i.invariant
