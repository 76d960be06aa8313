-- `header_passes` meets its contract.
-- Assumes nothing.
use Rattle.parts.specs.Control.{header_passes}
use Rattle.parts.proofs.control.header_passes.Goals as goal

pub returns : goal.returns
unfolding header_passes
returns c = cc
