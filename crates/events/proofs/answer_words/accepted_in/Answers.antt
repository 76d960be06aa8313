-- `accepted_in` meets its contract.
-- Assumes nothing.
use Rattle.std.proofs.Common.{eq-eqb}
use Rattle.laws.specs.Pick.{pick}
use Rattle.laws.proofs.Pick.{steps}
use Rattle.events.proofs.answer_words.accepted_in.Goals as goal

pub returns-then-words-eq1 : goal.returns-then-words-eq1
unfolding pick
returns-then-words-eq1 c = rw (eq-eqb _ 1 c.if-words-eq1.true) c.response_in.ensures

pub returns-then-status : goal.returns-then-status
unfolding pick
returns-then-status c = search steps

pub returns-then-words-eq1-2 : goal.returns-then-words-eq1-2
unfolding pick
returns-then-words-eq1-2 c = search steps

pub status_in-requires : goal.status_in-requires
status_in-requires c = c.requires.status c.if-status-2.true

pub returns-then-status-2 : goal.returns-then-status-2
unfolding pick
returns-then-status-2 c = search steps

pub returns-then-words : goal.returns-then-words
unfolding pick
returns-then-words c = search steps

pub returns : goal.returns
unfolding pick
returns c = search steps
