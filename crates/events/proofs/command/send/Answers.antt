-- `send` meets its contract.
-- Assumes nothing.
use Rattle.std.proofs.Common.{◌≡◌, ◌+◌, sym, refl, ◌∙◌, arith, length-set, eq-eqb, ne_eqb}
use Rattle.parts.specs.Command.{parameter_words}
use Rattle.parts.proofs.Bounds.{code_words, parameters_few}
use Rattle.drive.specs.Command.{obeyed, parameter_sent}
use Rattle.drive.specs.declared.drive.Drive.{Drive}
use Rattle.events.specs.State.{drive_in}
use Rattle.events.proofs.Asking.{closed_fit, did_closed}
use Rattle.events.proofs.Changes.{parameter_kept}
use Rattle.events.proofs.Done.{did_first, did_second, did_as, known}
use Rattle.events.proofs.Exchanges.{moved_within, one_word, single_obeyed, kept_few, moved_word}
use Rattle.events.proofs.command.send.Goals as goal

pub returns-then-words-eq1 : goal.returns-then-words-eq1
unfolding parameter_sent
returns-then-words-eq1 c =
    let one : parameter_words (drive_in c.args.state.now).transfer.control ≡ 1 = sym (rw c.transfer_in-t.ensures at c.parameter_words-words.ensures) ∙ c.if-words-eq1.true in
    did_first _ _ _ _ (sym (eq-eqb _ _ (one_word c.requires.0 c.requires.2 c.requires.3 one ∙ sym (code_words _ _ c.requires.2)))) refl
    (did_as _ _ (single_obeyed (drive_in c.args.state.now).transfer _ _ _ c.requires.2 c.requires.3 one) (rw c.transfer_in-t.ensures at c.send_only.ensures))

pub overflow_add-moved : goal.overflow_add-moved
overflow_add-moved c =
    rw c.transfer_in-t.ensures (omega (arith, moved_within c.requires.0 c.requires.2 (rw c.requires.3), parameters_few (drive_in c.args.state.now).transfer.control))

pub obey-requires : goal.obey-requires
obey-requires c =
    (closed_fit c.requires.0 c.close.ensures, c.requires.1)

pub returns-then-moved-words : goal.returns-then-moved-words
unfolding parameter_sent
returns-then-moved-words c =
    did_first _ _ _ _ (sym (eq-eqb _ _ (rw c.transfer_in-t.ensures at (c.if-moved-words.true ∙ c.parameter_words-words.ensures) ∙ sym (code_words _ _ c.requires.2)))) refl
    (did_closed (λ (d : Drive). obeyed (drive_in c.args.state.now).transfer d c.args.port c.args.word) c.requires.0 c.close.ensures (rw c.transfer_in-ended.ensures at c.obey.ensures))

pub bounds-state-at : goal.bounds-state-at
bounds-state-at c =
    let d = drive_in c.args.state.now in
    let other : (d.transfer.moved + 1 ≡ parameter_words d.transfer.control) → ⊥ = λ e. c.if-moved-words.false (rw c.transfer_in-t.ensures (e ∙ sym (rw c.transfer_in-t.ensures at c.parameter_words-words.ensures))) in
    rw c.transfer_in-t.ensures (omega (arith, kept_few c.requires.0 c.requires.2 c.requires.3 other, c.requires.0.long))

pub overflow_add-state : goal.overflow_add-state
overflow_add-state c =
    rw c.transfer_in-t.ensures (omega (arith, moved_within c.requires.0 c.requires.2 (rw c.requires.3), parameters_few (drive_in c.args.state.now).transfer.control))

pub bounds-state-15 : goal.bounds-state-15
bounds-state-15 c =
    simp length-set (omega (arith, c.requires.0.long))

pub returns : goal.returns
unfolding parameter_sent
returns c =
    let d = drive_in c.args.state.now in
    let other : (d.transfer.moved + 1 ≡ parameter_words d.transfer.control) → ⊥ = λ e. c.if-moved-words.false (rw c.transfer_in-t.ensures (e ∙ sym (rw c.transfer_in-t.ensures at c.parameter_words-words.ensures))) in
    did_second _ _ _ _ (sym (ne_eqb _ _ (λ e. other (e ∙ code_words _ _ c.requires.2)))) refl
    (record { answer = refl; state = rw c.transfer_in-t.ensures (parameter_kept _ c.args.word c.args.state.now (kept_few c.requires.0 c.requires.2 c.requires.3 other) c.requires.0.long (known c.requires.0) (moved_word c.args.state.now)) })
