-- `put_done` meets its contract: thirteen stores at the front.
-- Assumes nothing.
use Rattle.std.proofs.Common.{arith, length-set, rules}
use Rattle.laws.proofs.Lists.{stored}
use Rattle.drive.specs.Answer.{paper}
use Rattle.drive.specs.AnswerWords.{answer_words}
use Rattle.drive.specs.declared.answer.Answer.TheVariants.{Done}
use Rattle.events.proofs.answer_words.put_done.Goals as goal

pub bounds-out-1 : goal.bounds-out-1
bounds-out-1 c = simp length-set (omega arith)

pub bounds-out-2 : goal.bounds-out-2
bounds-out-2 c = simp length-set (omega arith)

pub bounds-out-3 : goal.bounds-out-3
bounds-out-3 c = simp length-set (omega arith)

pub bounds-out-4 : goal.bounds-out-4
bounds-out-4 c = simp length-set (omega arith)

pub bounds-out-5 : goal.bounds-out-5
bounds-out-5 c = simp length-set (omega arith)

pub bounds-out-6 : goal.bounds-out-6
bounds-out-6 c = simp length-set (omega arith)

pub bounds-out-7 : goal.bounds-out-7
bounds-out-7 c = simp length-set (omega arith)

pub bounds-out-8 : goal.bounds-out-8
bounds-out-8 c = simp length-set (omega arith)

pub bounds-out-9 : goal.bounds-out-9
bounds-out-9 c = simp length-set (omega arith)

pub bounds-out-10 : goal.bounds-out-10
bounds-out-10 c = simp length-set (omega arith)

pub bounds-out-11 : goal.bounds-out-11
bounds-out-11 c = simp length-set (omega arith)

pub bounds-out-12 : goal.bounds-out-12
bounds-out-12 c = simp length-set (omega arith)

pub returns : goal.returns
unfolding answer_words paper
returns c = stored c.args.out.now (answer_words Done) (search rules)
