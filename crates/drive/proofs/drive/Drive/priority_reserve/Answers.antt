-- `priority_reserve` meets its contract.
-- Assumes nothing.
use Rattle.drive.specs.Drive.{priority_reserved}
use Rattle.drive.proofs.drive.Drive.priority_reserve.Goals as goal

pub returns : goal.returns
unfolding priority_reserved
returns c = cc
