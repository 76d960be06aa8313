-- `is_place` meets its contract.
-- Assumes nothing.
use Rattle.parts.specs.Setup.{is_place}
use Rattle.parts.proofs.setup.Setup.is_place.Goals as goal

pub returns : goal.returns
unfolding is_place
returns c = cc
