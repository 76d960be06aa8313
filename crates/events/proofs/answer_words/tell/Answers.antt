-- `tell` meets its contract.
-- Assumes nothing.
use Rattle.events.proofs.ToldWords.{accepted_told, refusal_kept, refusal_told}
use Rattle.std.proofs.Common.{refl}
use Rattle.events.proofs.answer_words.tell.Goals as goal

pub returns-then-not-telling : goal.returns-then-not-telling
returns-then-not-telling c = refusal_kept _ _ _ _ (c.in-Refused.is) (c.if-not-telling.true)

pub returns-else-not-telling : goal.returns-else-not-telling
returns-else-not-telling c = refusal_told _ _ _ _ _ (c.in-Refused.is) (c.if-not-telling.false) (c.put_refused.ensures)

pub returns-in-Done : goal.returns-in-Done
returns-in-Done c = accepted_told _ _ _ _ _ (c.in-Done.is) refl refl (c.put_done.ensures)

pub returns-in-Status : goal.returns-in-Status
returns-in-Status c = accepted_told _ _ _ _ _ (c.in-Status.is) refl refl (c.put_status.ensures)

pub returns-in-Opened : goal.returns-in-Opened
returns-in-Opened c = accepted_told _ _ _ _ _ (c.in-Opened.is) refl refl (c.put_opened.ensures)

pub returns-in-Word : goal.returns-in-Word
returns-in-Word c = accepted_told _ _ _ _ _ (c.in-Word.is) refl refl (c.put_word.ensures)

pub returns-in-LastWord : goal.returns-in-LastWord
returns-in-LastWord c = accepted_told _ _ _ _ _ (c.in-LastWord.is) refl refl (c.put_last_word.ensures)

pub returns-in-Response : goal.returns-in-Response
returns-in-Response c = accepted_told _ _ _ _ _ (c.in-Response.is) refl refl (c.put_response.ensures)
