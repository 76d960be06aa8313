-- `refuse_all` meets its contract.
-- Assumes nothing.
use Rattle.std.proofs.Common.{refl, arith, rules}
use Rattle.events.proofs.Batches.{refusing_start, refusing_next, refusing_ended}
use Rattle.events.proofs.batch.refuse_all.Goals as goal

pub loop-i-init : goal.loop-i-init
loop-i-init c = (refl, refusing_start _ _)

pub loop-i-preserved : goal.loop-i-preserved
loop-i-preserved c = (search rules, refusing_next _ _ _ _ _ (omega (arith, c.loop-i-test.true, c.loop-i.invariant.0, c.requires)) c.loop-i.invariant.1 c.put_refused.ensures)

pub returns : goal.returns
returns c = refusing_ended _ _ _ _ _ (omega (arith, c.loop-i-test.false)) (omega (arith, c.loop-i.invariant.0, c.requires)) c.loop-i.invariant.1
