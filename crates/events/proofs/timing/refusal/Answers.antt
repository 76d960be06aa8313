-- `refusal` meets its contract.
-- Assumes nothing.
use Rattle.events.specs.State.{drive_in}
use Rattle.laws.proofs.Pick.{flags, steps}
use Rattle.events.proofs.timing.refusal.Goals as goal

pub returns-then-not-formed : goal.returns-then-not-formed
returns-then-not-formed c = search (steps, flags)

pub returns-then-not-is_selected : goal.returns-then-not-is_selected
returns-then-not-is_selected c = search (steps, flags)

pub returns-then-state-ne0 : goal.returns-then-state-ne0
unfolding drive_in
returns-then-state-ne0 c = search (steps, flags)

pub returns : goal.returns
unfolding drive_in
returns c = search (steps, flags)
