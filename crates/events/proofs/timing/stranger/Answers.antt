-- `stranger` meets its contract.
-- Assumes nothing.
use Rattle.laws.proofs.Pick.{flags, steps}
use Rattle.events.proofs.timing.stranger.Goals as goal

pub returns-then-not-formed : goal.returns-then-not-formed
returns-then-not-formed c = search (steps, flags)

pub returns-then-not-is_selected : goal.returns-then-not-is_selected
returns-then-not-is_selected c = search (steps, flags)

pub returns : goal.returns
returns c = search (steps, flags)
