-- The definitions that an event on the words of a state computes with: `unfolding computing_words` opens them all.
-- Assumes nothing.
use Rattle.drive.proofs.Computing.{computing}
use Rattle.events.specs.State.{hold_word, hold_of, pending_word, pending_in, moving_words, state_words, selected_in, drive_in, moved_to, state_after}
use Rattle.events.specs.Part.{tick_at, gap, gap_at}

unfoldable pub computing_words : Unit {0}
unfolding computing hold_word hold_of pending_word pending_in moving_words state_words selected_in drive_in moved_to state_after tick_at gap gap_at
computing_words = tt
