-- `deselect` meets its contract.
-- Assumes nothing.
use Rattle.drive.specs.Drive.{deselected}
use Rattle.drive.proofs.drive.Drive.deselect.Goals as goal

pub returns : goal.returns
unfolding deselected
returns c = cc
