-- `code_of` meets its contract.
-- Assumes nothing.
use mathlib.Core.Path.{sym, ◌∙◌}
use Rattle.laws.specs.Pick.{pick}
use Rattle.parts.specs.Command.{code_of}
use Rattle.parts.proofs.command.code_of.Goals as goal

pub returns-then-is_command : goal.returns-then-is_command
unfolding code_of pick
returns-then-is_command c = rw (sym c.is_command.ensures ∙ c.if-is_command.true)

pub returns-then-is_response : goal.returns-then-is_response
unfolding code_of pick
returns-then-is_response c = rw (sym c.is_command.ensures ∙ c.if-is_command.false, sym c.is_response.ensures ∙ c.if-is_response.true)

pub returns-then-acts_on_more : goal.returns-then-acts_on_more
unfolding code_of pick
returns-then-acts_on_more c =
    rw (sym c.is_command.ensures ∙ c.if-is_command.false, sym c.is_response.ensures ∙ c.if-is_response.false, sym c.acts_on_more.ensures ∙ c.if-acts_on_more.true)

pub returns : goal.returns
unfolding code_of pick
returns c =
    rw (sym c.is_command.ensures ∙ c.if-is_command.false, sym c.is_response.ensures ∙ c.if-is_response.false, sym c.acts_on_more.ensures ∙ c.if-acts_on_more.false)
