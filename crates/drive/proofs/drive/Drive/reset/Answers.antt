-- `reset` meets its contract.
-- Assumes nothing.
use Rattle.drive.specs.Drive.{after_reset}
use Rattle.drive.proofs.drive.Drive.reset.Goals as goal

pub returns : goal.returns
unfolding after_reset
returns c = cc
