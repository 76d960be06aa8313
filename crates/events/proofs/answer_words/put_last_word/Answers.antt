-- `put_last_word` meets its contract.
-- Assumes nothing.
use Rattle.std.proofs.Common.{arith, length-set}
use Rattle.events.proofs.ToldWords.{last_word_over}
use Rattle.events.proofs.answer_words.put_last_word.Goals as goal

pub bounds-out-6 : goal.bounds-out-6
bounds-out-6 c = simp length-set (omega (arith, c.requires))

pub bounds-out-7 : goal.bounds-out-7
bounds-out-7 c = simp length-set (omega (arith, c.requires))

pub returns : goal.returns
returns c = rw c.from.ensures (last_word_over _ _ _ (c.put_done.ensures))
