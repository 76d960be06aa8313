-- `release` meets its contract.
-- Assumes nothing.
use Rattle.drive.specs.Drive.{unreserved}
use Rattle.drive.proofs.drive.Drive.release.Goals as goal

pub returns : goal.returns
unfolding unreserved
returns c = cc
