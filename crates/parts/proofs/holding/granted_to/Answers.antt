-- `granted_to` meets its contract.
-- Assumes nothing.
use Rattle.parts.specs.Holding.{granted_to}
use Rattle.parts.proofs.OnPaper.{bits_of_hold, holding_said}
use Rattle.parts.proofs.holding.granted_to.Goals as goal

pub returns : goal.returns
unfolding granted_to
returns c = holding_said (bits_of_hold _) (cc)
