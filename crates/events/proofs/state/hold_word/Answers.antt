-- `hold_word` meets its contract.
-- Assumes nothing.
use Rattle.events.specs.State.{hold_word}
use Rattle.events.proofs.state.hold_word.Goals as goal

pub returns-in-None : goal.returns-in-None
unfolding hold_word
returns-in-None c = rw c.in-None.is

pub returns-in-Plain : goal.returns-in-Plain
unfolding hold_word
returns-in-Plain c = rw c.in-Plain.is

pub returns-in-Strong : goal.returns-in-Strong
unfolding hold_word
returns-in-Strong c = rw c.in-Strong.is
