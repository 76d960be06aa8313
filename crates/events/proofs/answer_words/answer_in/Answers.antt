-- `answer_in` meets its contract.
-- Assumes nothing.
use Rattle.drive.specs.AnswerWords.{answer_in}
use Rattle.events.proofs.ToldWords.{refused_in}
use Rattle.events.proofs.answer_words.answer_in.Goals as goal

pub returns-in-Ok : goal.returns-in-Ok
unfolding answer_in
returns-in-Ok c = rw c.in-Ok.is c.accepted_in.ensures

pub returns-in-Err : goal.returns-in-Err
returns-in-Err c = rw c.in-Err.is (refused_in _ _)
