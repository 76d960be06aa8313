-- `respond` meets its contract.
-- Assumes nothing.
use Rattle.std.proofs.Common.{sym, refl, ap, ◌∙◌, arith, eq-eqb, ne_eqb}
use Rattle.parts.proofs.Bounds.{code_words, parameters_few}
use Rattle.drive.specs.Command.{response_taken}
use Rattle.drive.specs.declared.answer.Answer.TheVariants.{Word, LastWord}
use Rattle.events.specs.State.{drive_in}
use Rattle.events.proofs.Changes.{word_moved}
use Rattle.events.proofs.Done.{did_first, did_second, known}
use Rattle.events.proofs.Exchanges.{told_within}
use Rattle.events.proofs.command.respond.Goals as goal

pub word_told-word-requires : goal.word_told-word-requires
unfolding drive_in
word_told-word-requires c =
    (c.requires.0, c.requires.1, told_within c.requires.0 c.requires.2 c.requires.3)

pub overflow_add-moved : goal.overflow_add-moved
unfolding drive_in
overflow_add-moved c =
    omega (arith, told_within c.requires.0 c.requires.2 c.requires.3, parameters_few (drive_in c.args.state.now).transfer.control)

pub returns-then-moved-parameter_words : goal.returns-then-moved-parameter_words
unfolding response_taken drive_in
returns-then-moved-parameter_words c =
    did_first _ _ _ _ (sym (eq-eqb _ _ (c.if-moved-parameter_words.true ∙ c.parameter_words.ensures ∙ sym (code_words _ _ c.requires.2)))) refl
    (record { answer = ap LastWord c.word_told-word.ensures; state = c.end_response.ensures })

pub overflow_add-state : goal.overflow_add-state
unfolding drive_in
overflow_add-state c =
    omega (arith, told_within c.requires.0 c.requires.2 c.requires.3, parameters_few (drive_in c.args.state.now).transfer.control)

pub returns : goal.returns
unfolding response_taken drive_in
returns c =
    did_second _ _ _ _ (sym (ne_eqb _ _ (λ e. c.if-moved-parameter_words.false (e ∙ code_words _ _ c.requires.2 ∙ sym c.parameter_words.ensures)))) refl
    (record { answer = ap Word c.word_told-word.ensures; state = word_moved _ _ c.requires.0.long (known c.requires.0) })
