-- `inside_refusal` meets its contract.
-- Assumes nothing.
use Rattle.laws.proofs.Pick.{flags, steps}
use Rattle.parts.proofs.refusal.inside_refusal.Goals as goal

pub returns-then-not-formed : goal.returns-then-not-formed
returns-then-not-formed c = search (steps, flags)

pub returns-then-not-selected : goal.returns-then-not-selected
returns-then-not-selected c = search (steps, flags)

pub returns-then-untimely : goal.returns-then-untimely
returns-then-untimely c = search (steps, flags)

pub returns : goal.returns
returns c = search (steps, flags)
