-- `put_aim` meets its contract.
-- Assumes nothing.
use Rattle.std.proofs.Common.{arith, length-set}
use Rattle.events.proofs.Changes.{aim_put}
use Rattle.events.proofs.Done.{known}
use Rattle.events.proofs.command.put_aim.Goals as goal

pub bounds-state-11 : goal.bounds-state-11
bounds-state-11 c = simp length-set (omega (arith, c.requires.long))

pub bounds-state-12 : goal.bounds-state-12
bounds-state-12 c = simp length-set (omega (arith, c.requires.long))

pub bounds-state-13 : goal.bounds-state-13
bounds-state-13 c = simp length-set (omega (arith, c.requires.long))

pub returns : goal.returns
returns c = aim_put _ _ _ c.requires.long (known c.requires)
