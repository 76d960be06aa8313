-- `posted_on` meets its contract.
-- Assumes nothing.
use Rattle.drive.specs.State.{posted_on}
use Rattle.drive.proofs.drive.Drive.posted_on.Goals as goal

pub returns : goal.returns
unfolding posted_on
returns c = cc
