-- `is_one_open` meets its contract.
-- Assumes nothing.
use Rattle.events.proofs.Timely.{timely_told}
use Rattle.events.specs.State.{drive_in}
use Rattle.events.proofs.timing.is_one_open.Goals as goal

pub returns : goal.returns
unfolding drive_in
returns c = (timely_told c.requires).one
