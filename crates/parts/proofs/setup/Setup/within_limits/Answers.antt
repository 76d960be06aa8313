-- `within_limits` meets its contract.
-- Assumes nothing.
use Rattle.parts.specs.Setup.{within_limits}
use Rattle.parts.proofs.setup.Setup.within_limits.Goals as goal

pub returns : goal.returns
unfolding within_limits
returns c = cc
