-- `answer_event` meets its contract.
-- Assumes nothing.
use Rattle.events.proofs.Promises.{no_state, no_room_for_answer, event_worked}
use Rattle.drive.specs.Batch.{event_of}
use Rattle.std.proofs.Common.{refl}
use Rattle.events.proofs.event.answer_event.Goals as goal

pub returns-then-state-lt-STATE_WORDS : goal.returns-then-state-lt-STATE_WORDS
returns-then-state-lt-STATE_WORDS c = no_state _ _ _ _ _ c.if-state-lt-STATE_WORDS.true

pub returns-then-answer-lt-ANSWER_WORDS : goal.returns-then-answer-lt-ANSWER_WORDS
returns-then-answer-lt-ANSWER_WORDS c =
    no_room_for_answer c.if-state-lt-STATE_WORDS.false c.if-answer-lt-ANSWER_WORDS.true c.refuse_short.ensures

pub returns : goal.returns
unfolding event_of
returns c =
    event_worked _ _ _ _ _ _ _ _ _ _ _ c.if-state-lt-STATE_WORDS.false c.if-answer-lt-ANSWER_WORDS.false refl c.work.ensures
