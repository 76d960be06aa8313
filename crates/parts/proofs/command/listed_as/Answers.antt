-- `listed_as` meets its contract.
-- Assumes nothing.
use mathlib.Core.Path.{sym, ◌∙◌}
use borrow.Author.Tests.{ne_eqb}
use Rattle.laws.specs.Pick.{pick}
use Rattle.parts.specs.Command.{function_of}
use Rattle.parts.proofs.command.listed_as.Goals as goal

pub returns-then-function_acts_on_more : goal.returns-then-function_acts_on_more
unfolding function_of pick
returns-then-function_acts_on_more c =
    let none = c.in_default.in_default-own.rest in
    rw (ne_eqb _ 0x13 none.0.0.0.0.1, ne_eqb _ 0x14 none.0.0.0.1, ne_eqb _ 0x15 none.0.0.1, ne_eqb _ 0x20 none.0.1, ne_eqb _ 0x28 none.1, sym c.function_acts_on_more.ensures ∙ c.if-function_acts_on_more.true)

pub returns-in-19 : goal.returns-in-19
unfolding function_of pick
returns-in-19 c = rw c.in-19.is

pub returns-in-20 : goal.returns-in-20
unfolding function_of pick
returns-in-20 c = rw c.in-20.is

pub returns-in-21 : goal.returns-in-21
unfolding function_of pick
returns-in-21 c = rw c.in-21.is

pub returns-in-32 : goal.returns-in-32
unfolding function_of pick
returns-in-32 c = rw c.in-32.is

pub returns-in-40 : goal.returns-in-40
unfolding function_of pick
returns-in-40 c = rw c.in-40.is

pub returns-else-function_acts_on_more : goal.returns-else-function_acts_on_more
unfolding function_of pick
returns-else-function_acts_on_more c =
    let none = c.in_default.in_default-own.rest in
    rw (ne_eqb _ 0x13 none.0.0.0.0.1, ne_eqb _ 0x14 none.0.0.0.1, ne_eqb _ 0x15 none.0.0.1, ne_eqb _ 0x20 none.0.1, ne_eqb _ 0x28 none.1, sym c.function_acts_on_more.ensures ∙ c.if-function_acts_on_more.false)
