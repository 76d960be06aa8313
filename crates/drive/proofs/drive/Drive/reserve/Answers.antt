-- `reserve` meets its contract.
-- Assumes nothing.
use Rattle.drive.specs.Drive.{reserved}
use Rattle.drive.proofs.drive.Drive.reserve.Goals as goal

pub returns : goal.returns
unfolding reserved
returns c = cc
