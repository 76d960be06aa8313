-- `at_rest_lem` meets its contract.
-- Assumes nothing.
use Rattle.drive.proofs.power.at_rest.Goals as goal

pub returns : goal.returns
returns c = cc
