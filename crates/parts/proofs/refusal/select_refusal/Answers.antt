-- `select_refusal` meets its contract.
-- Assumes nothing.
use Rattle.laws.proofs.Pick.{flags, steps}
use Rattle.parts.proofs.refusal.select_refusal.Goals as goal

pub returns-then-not-formed : goal.returns-then-not-formed
returns-then-not-formed c = search (steps, flags) depth 9

pub returns-then-selected : goal.returns-then-selected
returns-then-selected c = search (steps, flags) depth 9

pub returns-then-misaddressed : goal.returns-then-misaddressed
returns-then-misaddressed c = search (steps, flags) depth 9

pub returns-then-changes_mode : goal.returns-then-changes_mode
returns-then-changes_mode c = search (steps, flags) depth 9

pub returns-then-busy : goal.returns-then-busy
returns-then-busy c = search (steps, flags) depth 9

pub returns : goal.returns
returns c = search (steps, flags) depth 9
