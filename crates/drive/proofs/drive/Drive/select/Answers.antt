-- `select` meets its contract.
-- Assumes nothing.
use Rattle.drive.specs.Drive.{selected}
use Rattle.drive.proofs.drive.Drive.select.Goals as goal

pub returns : goal.returns
unfolding selected
returns c = cc
