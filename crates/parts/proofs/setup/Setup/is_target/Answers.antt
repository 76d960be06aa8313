-- `is_target` meets its contract.
-- Assumes nothing.
use Rattle.parts.specs.Setup.{is_target}
use Rattle.parts.proofs.setup.Setup.is_target.Goals as goal

pub returns : goal.returns
unfolding is_target
returns c = cc
