-- `is_busy` meets its contract.
-- Assumes nothing.
use Rattle.parts.specs.Holding.{is_busy}
use Rattle.parts.proofs.holding.Holding.is_busy.Goals as goal

pub returns : goal.returns
unfolding is_busy
returns c = cc
