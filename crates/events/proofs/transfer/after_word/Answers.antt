-- `after_word` meets its contract: a miscompare, the last word, or one on the way.
-- Assumes nothing.
use Rattle.events.proofs.Changes.{word_moved}
use Rattle.events.proofs.Done.{did_as_in, fit, known}
use Rattle.events.proofs.Transfers.{differs, has_room, last_word, one_of_more, started}
use Rattle.events.specs.State.{drive_in}
use Rattle.std.proofs.Common.{sym, refl, ◌∙◌}
use Rattle.events.proofs.transfer.after_word.Goals as goal

pub returns-then-header_miscompares : goal.returns-then-header_miscompares
returns-then-header_miscompares c =
    did_as_in _ _ (differs (drive_in c.args.state.now) _ _ _ _ (sym c.header_miscompares.ensures ∙ c.if-header_miscompares.true))
    (record { answer = refl; state = c.end_transfer.ensures; sectors = refl; staging = refl })

pub commit-requires : goal.commit-requires
commit-requires c =
    has_room c.requires.0 _ _ _ c.setup_in-setup.ensures c.place_in.ensures c.sector_start-start.ensures

pub end_transfer-requires-then-is_last : goal.end_transfer-requires-then-is_last
end_transfer-requires-then-is_last c =
    fit c.requires.0

pub returns-then-is_last : goal.returns-then-is_last
returns-then-is_last c =
    did_as_in _ _ (last_word (drive_in c.args.state.now) _ _ _ _ _ c.requires.1 (sym c.header_miscompares.ensures ∙ c.if-header_miscompares.false) (sym c.is_last.ensures ∙ c.if-is_last.true))
    (record {
      answer = refl;
      state = c.end_transfer-then-is_last.ensures;
      sectors = c.commit.ensures ∙ rw ((started c.requires.0 _ _ _ c.setup_in-setup.ensures c.place_in.ensures c.sector_start-start.ensures), c.setup_in-setup.ensures, c.place_in.ensures);
      staging = refl;
    })

pub returns : goal.returns
returns c =
    did_as_in _ _ (one_of_more (drive_in c.args.state.now) _ _ _ _ _ c.requires.1 (sym c.header_miscompares.ensures ∙ c.if-header_miscompares.false) (sym c.is_last.ensures ∙ c.if-is_last.false))
    (record { answer = refl; state = word_moved _ _ c.requires.0.long (known (fit c.requires.0)); sectors = refl; staging = refl })
