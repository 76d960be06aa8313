-- `chosen` meets its contract.
-- Assumes nothing.
use Rattle.laws.specs.Pick.{pick}
use Rattle.drive.proofs.drive.chosen.Goals as goal

pub returns-then-first : goal.returns-then-first
unfolding pick
returns-then-first c = rw c.if-first.true

pub returns-else-first : goal.returns-else-first
unfolding pick
returns-else-first c = rw c.if-first.false
