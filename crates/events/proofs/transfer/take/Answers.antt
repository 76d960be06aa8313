-- `take` meets its contract: the word at its offset is word k of the read.
-- Assumes nothing.
use Rattle.events.proofs.Changes.{word_moved}
use Rattle.events.proofs.Done.{did_as, fit, known}
use Rattle.events.proofs.Transfers.{has_room, last_taken_lem, moving, one_taken, started}
use Rattle.events.specs.State.{drive_in}
use Rattle.std.proofs.Common.{sym, refl, ◌∙◌, arith}
use Rattle.parts.proofs.Bounds.{data_words_lem}
use Rattle.parts.proofs.ByBits.{read_is_data}
use Rattle.events.proofs.transfer.take.Goals as goal

pub word_offset-requires : goal.word_offset-requires
unfolding drive_in
word_offset-requires c =
    (rw c.setup_in-setup.ensures (rw (data_words_lem _ _ (read_is_data _ c.requires.2)) at c.requires.1.moved), c.requires.2)

pub overflow_add-at : goal.overflow_add-at
overflow_add-at c =
    let r = has_room c.requires.0 _ _ _ c.setup_in-setup.ensures c.place_in.ensures c.sector_start-start.ensures in
    omega (arith, r.sector, c.word_offset.ensures.inside)

pub offset_bounds-sectors-at : goal.offset_bounds-sectors-at
offset_bounds-sectors-at c =
    let r = has_room c.requires.0 _ _ _ c.setup_in-setup.ensures c.place_in.ensures c.sector_start-start.ensures in
    omega (arith, r.sector, c.word_offset.ensures.inside)

pub bounds-sectors-at : goal.bounds-sectors-at
bounds-sectors-at c =
    let r = has_room c.requires.0 _ _ _ c.setup_in-setup.ensures c.place_in.ensures c.sector_start-start.ensures in
    omega (arith, r.sector, c.word_offset.ensures.inside)

pub overflow_cast-moved : goal.overflow_cast-moved
overflow_cast-moved c =
    let m = moving c.requires.1 (read_is_data _ c.requires.2) in
    omega (arith, m.few)

pub overflow_add-moved : goal.overflow_add-moved
overflow_add-moved c =
    let m = moving c.requires.1 (read_is_data _ c.requires.2) in
    omega (arith, m.few)

pub read_words-requires : goal.read_words-requires
unfolding drive_in
read_words-requires c =
    (c.requires.0.long, c.requires.2)

pub returns-then-moved-read_words : goal.returns-then-moved-read_words
unfolding drive_in
returns-then-moved-read_words c =
    let room = has_room c.requires.0 _ _ _ c.setup_in-setup.ensures c.place_in.ensures c.sector_start-start.ensures in
    did_as _ _ (last_taken_lem (drive_in c.args.state.now) _ _ _ _ _ _ c.setup_in-setup.ensures c.place_in.ensures (started c.requires.0 _ _ _ c.setup_in-setup.ensures c.place_in.ensures c.sector_start-start.ensures) room c.word_offset.ensures (c.if-moved-read_words.true ∙ c.read_words.ensures ∙ sym (data_words_lem _ _ (read_is_data _ c.requires.2))))
    (record { answer = refl; state = c.end_transfer.ensures })

pub overflow_add-state : goal.overflow_add-state
overflow_add-state c =
    let m = moving c.requires.1 (read_is_data _ c.requires.2) in
    omega (arith, m.few)

pub returns : goal.returns
unfolding drive_in
returns c =
    let room = has_room c.requires.0 _ _ _ c.setup_in-setup.ensures c.place_in.ensures c.sector_start-start.ensures in
    did_as _ _ (one_taken (drive_in c.args.state.now) _ _ _ _ _ _ c.setup_in-setup.ensures c.place_in.ensures (started c.requires.0 _ _ _ c.setup_in-setup.ensures c.place_in.ensures c.sector_start-start.ensures) room c.word_offset.ensures (λ e. c.if-moved-read_words.false (e ∙ data_words_lem _ _ (read_is_data _ c.requires.2) ∙ sym c.read_words.ensures)))
    (record { answer = refl; state = word_moved _ _ c.requires.0.long (known (fit c.requires.0)) })
