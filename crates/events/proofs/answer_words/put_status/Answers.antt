-- `put_status` meets its contract.
-- Assumes nothing.
use Rattle.events.proofs.ToldWords.{status_over}
use Rattle.events.proofs.answer_words.put_status.Goals as goal

pub returns : goal.returns
returns c = rw c.from.ensures (status_over _ _ _ (c.put_done.ensures))
