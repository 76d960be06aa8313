-- `put_transfer` meets its contract.
-- Assumes nothing.
use Rattle.std.proofs.Common.{refl, arith, length-set}
use Rattle.events.specs.Open.{transfer_on}
use Rattle.events.proofs.place.put_transfer.Goals as goal

pub bounds-state-15 : goal.bounds-state-15
bounds-state-15 c = simp length-set (omega arith)

pub bounds-state-18 : goal.bounds-state-18
bounds-state-18 c = simp length-set (omega arith)

pub bounds-state-19 : goal.bounds-state-19
bounds-state-19 c = simp length-set (omega arith)

pub bounds-state-20 : goal.bounds-state-20
bounds-state-20 c = simp length-set (omega arith)

pub returns : goal.returns
unfolding transfer_on
returns c = refl
