-- `end_response` meets its contract.
-- Assumes nothing.
use Rattle.std.proofs.Common.{refl, ◌∙◌, length-set, eq-eqb, ne_eqb}
use Rattle.laws.specs.Pick.{pick}
use Rattle.drive.specs.Command.{status_cleared}
use Rattle.events.specs.Open.{transfer_on}
use Rattle.events.proofs.Changes.{status_ended}
use Rattle.events.proofs.Done.{known}
use Rattle.events.proofs.command.end_response.Goals as goal

pub shape_of-state-then-control-eq-READ_STATUS : goal.shape_of-state-then-control-eq-READ_STATUS
unfolding transfer_on
shape_of-state-then-control-eq-READ_STATUS c =
    rw c.put_transfer.ensures (simp length-set refl)

pub returns-then-control-eq-READ_STATUS : goal.returns-then-control-eq-READ_STATUS
unfolding status_cleared pick
returns-then-control-eq-READ_STATUS c =
    c.put_transfer.ensures ∙ rw (eq-eqb _ _ c.if-control-eq-READ_STATUS.true) (status_ended _ _ c.requires.1 c.requires.0.long (known c.requires.0))

pub returns : goal.returns
unfolding status_cleared pick
returns c =
    rw (ne_eqb _ _ c.if-control-eq-READ_STATUS.false) c.close.ensures
