-- `power_up_words` meets its contract: what the drive answers, and the words of the state.
-- Assumes nothing.
use Rattle.refusals.proofs.OnPaper.{passed_on}
use Rattle.events.proofs.PowerUp.{power_refused, no_room_for_state, powered}
use Rattle.events.proofs.power.power_up_words.Goals as goal

pub returns-in_err-powered : goal.returns-in_err-powered
returns-in_err-powered c = rw (passed_on c.from_residual.ensures) (power_refused _ c.in_err-powered.ensures)

pub returns-then-state-lt-STATE_WORDS : goal.returns-then-state-lt-STATE_WORDS
returns-then-state-lt-STATE_WORDS c = no_room_for_state _ c.in_ok-powered.ensures c.if-state-lt-STATE_WORDS.true

pub returns : goal.returns
returns c = powered _ c.in_ok-powered.ensures c.if-state-lt-STATE_WORDS.false c.put_state.ensures
