-- `is_selected` meets its contract.
-- Assumes nothing.
use Rattle.events.proofs.Done.{known}
use Rattle.events.specs.State.{drive_in, selected_in}
use Rattle.laws.specs.Pick.{pick}
use Rattle.events.proofs.timing.is_selected.Goals as goal

pub returns : goal.returns
unfolding drive_in selected_in pick
returns c = rw (known c.requires)
