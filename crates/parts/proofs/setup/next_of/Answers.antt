-- `next_of` meets its contract.
-- Assumes nothing.
use Rattle.parts.specs.Setup.{following}
use Rattle.laws.proofs.Pick.{steps}
use Rattle.parts.proofs.setup.next_of.Goals as goal

pub returns-then-n-count : goal.returns-then-n-count
unfolding following
returns-then-n-count c = search steps

pub returns : goal.returns
unfolding following
returns c = search steps
