-- `step_head` meets its contract.
-- Assumes nothing.
use Rattle.events.proofs.Done.{known}
use Rattle.events.proofs.Changes.{head_moved}
use Rattle.events.proofs.place.step_head.Goals as goal

pub returns : goal.returns
returns c = rw (c.next_of-next.ensures) (head_moved _ (c.requires.long) (known c.requires))
