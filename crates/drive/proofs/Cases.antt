-- P1 to P12 and the case of M-102, by computation.
-- Assumes nothing.
use mathlib.Core.Path.{refl}
use Rattle.drive.specs.Cases.{CasesHold}
use Rattle.drive.proofs.Computing.{computing}

pub cases_hold : CasesHold
unfolding computing
cases_hold = record { all = (record { answered = refl; words = refl; position = refl }, (record { answered = refl; words = refl; position = refl }, (record { answered = refl; words = refl; position = refl }, (record { answered = refl; words = refl; position = refl }, (record { answered = refl; words = refl; position = refl }, (record { answered = refl; words = refl; position = refl }, (record { answered = refl; words = refl; position = refl }, (record { answered = refl; words = refl; position = refl }, (record { answered = refl; words = refl; position = refl }, tt))))))))) }
