-- `words_to_come` meets its contract.
-- Assumes nothing.
use mathlib.Core.Path.{sym, ◌∙◌}
use Rattle.laws.specs.Pick.{pick}
use Rattle.parts.specs.Control.{words_to_come}
use Rattle.parts.proofs.setup.Setup.words_to_come.Goals as goal

pub returns-then-is_data : goal.returns-then-is_data
unfolding words_to_come pick
returns-then-is_data c = rw (sym c.is_data.ensures ∙ c.if-is_data.true) c.data_words.ensures

pub returns : goal.returns
unfolding words_to_come pick
returns c = rw (sym c.is_data.ensures ∙ c.if-is_data.false) c.parameter_words.ensures
