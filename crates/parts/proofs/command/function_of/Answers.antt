-- `function_of` meets its contract.
-- Assumes nothing.
use borrow.Author.Tests.{ne_eqb, eq-eqb}
use Rattle.laws.specs.Pick.{pick}
use Rattle.parts.specs.Command.{function_in}
use Rattle.parts.proofs.OnPaper.{function_said}
use Rattle.parts.proofs.command.function_of.Goals as goal

pub returns-then-word : goal.returns-then-word
unfolding function_in pick
returns-then-word c = function_said (rw (ne_eqb _ _ c.if-word.true))

pub returns : goal.returns
unfolding function_in pick
returns c = function_said (rw (eq-eqb _ _ c.if-word.false) c.listed_as.ensures)
