-- `pending_word` meets its contract.
-- Assumes nothing.
use Rattle.events.specs.State.{pending_word}
use Rattle.events.proofs.state.pending_word.Goals as goal

pub returns : goal.returns
unfolding pending_word
returns c = c.word.ensures
