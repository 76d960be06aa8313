-- `specs/WrongAnswers` proved: each differs from the right answer, which antt computes.
-- Assumes nothing.
use Rattle.laws.specs.Pick.{pick}
use Rattle.laws.proofs.Differ.{never}
use Rattle.numbers.specs.Number.{number_in}
use Rattle.numbers.specs.WrongAnswers.{WrongAnswers}

pub wrong_answers : WrongAnswers
unfolding pick number_in
wrong_answers =
    record {
      gone_round = λ h. never (cc);
      nothing_as_zero = λ h. never (cc);
      sign_skipped = λ h. never (cc);
      letter_left_out = λ h. never (cc);
      eleventh_digit_taken = λ h. never (cc);
      last_digit_first = λ h. never (cc);
    }
