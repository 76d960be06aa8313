-- `put_place` meets its contract.
-- Assumes nothing.
use Rattle.events.proofs.Done.{known}
use Rattle.events.proofs.Changes.{place_put}
use Rattle.std.proofs.Common.{arith, length-set}
use Rattle.events.proofs.place.put_place.Goals as goal

pub bounds-state-11 : goal.bounds-state-11
bounds-state-11 c = simp length-set (omega (arith, c.requires.long))

pub bounds-state-12 : goal.bounds-state-12
bounds-state-12 c = simp length-set (omega (arith, c.requires.long))

pub returns : goal.returns
returns c = place_put _ _ (c.requires.long) (known c.requires)
