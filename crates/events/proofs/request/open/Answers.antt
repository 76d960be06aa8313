-- `open` meets its contract.
-- Assumes nothing.
use Rattle.std.proofs.Common.{sym, refl, ◌∙◌, arith, eq-eqb, ne_eqb}
use Rattle.parts.proofs.Bounds.{limits, data_words_lem, words_few}
use Rattle.drive.proofs.Sound.{sound}
use Rattle.drive.specs.Request.{opened}
use Rattle.events.specs.State.{drive_in}
use Rattle.events.proofs.Changes.{transfer_put}
use Rattle.events.proofs.Done.{did_first, did_second, known}
use Rattle.events.proofs.request.open.Goals as goal

pub returns-then-words-eq0 : goal.returns-then-words-eq0
unfolding opened
returns-then-words-eq0 c =
    did_first _ _ _ _ (sym (eq-eqb _ _ ((data_words_lem _ _ c.requires.1) ∙ sym c.data_words-words.ensures ∙ c.if-words-eq0.true))) refl (record { answer = refl; state = c.end_transfer.ensures })

pub overflow_cast-result : goal.overflow_cast-result
overflow_cast-result c =
    let few = words_few _ c.args.control (limits _ (sound _ c.requires.0.sound).limits) in
    rw c.data_words-words.ensures (omega (arith, few, data_words_lem (drive_in c.args.state.now).setup c.args.control c.requires.1))

pub returns : goal.returns
unfolding opened
returns c =
    did_second _ _ _ _ (sym (ne_eqb _ _ (λ z. c.if-words-eq0.false (c.data_words-words.ensures ∙ sym (data_words_lem _ _ c.requires.1) ∙ z)))) refl
    (record { answer = rw (c.place_in-here.ensures, c.data_words-words.ensures, data_words_lem _ _ c.requires.1); state = c.put_transfer.ensures ∙ transfer_put _ _ c.requires.0.long (known c.requires.0) })
