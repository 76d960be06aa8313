-- `put_refused` meets its contract.
-- Assumes nothing.
use Rattle.events.proofs.ToldWords.{refused_over}
use Rattle.events.proofs.answer_words.put_refused.Goals as goal

pub returns : goal.returns
returns c = rw c.from.ensures (refused_over _ _ _ c.put_done.ensures)
