-- `open_code` meets its contract.
-- Assumes nothing.
use Rattle.std.proofs.Common.{sym, refl, ◌∙◌}
use Rattle.parts.proofs.Bounds.{code_words}
use Rattle.drive.proofs.Outcomes.{code_words_come}
use Rattle.drive.specs.Request.{opened}
use Rattle.events.proofs.Changes.{transfer_put}
use Rattle.events.proofs.Done.{did_second, known}
use Rattle.events.proofs.request.open_code.Goals as goal

pub returns : goal.returns
unfolding opened
returns c =
    did_second _ _ _ _ (sym (code_words_come _ _ c.requires.1 c.requires.2)) refl
    (record { answer = rw (c.place_in-here.ensures, c.parameter_words-words.ensures, code_words _ _ c.requires.1); state = c.put_transfer.ensures ∙ transfer_put _ _ c.requires.0.long (known c.requires.0) })
