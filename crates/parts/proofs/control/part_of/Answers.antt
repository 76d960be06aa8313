-- `part_of` meets its contract.
-- Assumes nothing.
use Rattle.laws.specs.Pick.{pick}
use borrow.Author.Rules.{rules}
use Rattle.parts.proofs.control.part_of.Goals as goal

-- Assumes nothing.

pub returns-then-passes : goal.returns-then-passes
unfolding pick
returns-then-passes c = (rw c.if-passes.true, search rules)

pub returns-else-passes : goal.returns-else-passes
unfolding pick
returns-else-passes c = (rw c.if-passes.false, search rules)
