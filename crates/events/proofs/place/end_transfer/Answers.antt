-- `end_transfer` meets its contract.
-- Assumes nothing.
use Rattle.std.proofs.Common.{refl, ◌∙◌, length-set}
use Rattle.events.specs.Open.{transfer_on}
use Rattle.events.proofs.Changes.{transfer_ended}
use Rattle.events.proofs.Done.{known}
use Rattle.events.proofs.place.end_transfer.Goals as goal

pub shape_of-state : goal.shape_of-state
unfolding transfer_on
shape_of-state c =
    rw c.put_transfer.ensures (simp length-set refl)

pub returns : goal.returns
returns c =
    c.put_transfer.ensures ∙ rw c.next_of-next.ensures (transfer_ended _ c.requires.long (known c.requires))
