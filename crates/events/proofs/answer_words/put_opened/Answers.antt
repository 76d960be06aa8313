-- `put_opened` meets its contract.
-- Assumes nothing.
use Rattle.std.proofs.Common.{arith, length-set}
use Rattle.events.proofs.ToldWords.{opened_over}
use Rattle.events.proofs.answer_words.put_opened.Goals as goal

pub bounds-out-3 : goal.bounds-out-3
bounds-out-3 c = simp length-set (omega (arith, c.requires))

pub bounds-out-4 : goal.bounds-out-4
bounds-out-4 c = simp length-set (omega (arith, c.requires))

pub bounds-out-5 : goal.bounds-out-5
bounds-out-5 c = simp length-set (omega (arith, c.requires))

pub returns : goal.returns
returns c = opened_over _ _ _ _ (c.put_done.ensures)
