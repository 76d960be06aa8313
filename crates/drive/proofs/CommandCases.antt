-- The worked cases of commands and responses, by computation.
-- Assumes nothing.
use mathlib.Core.Path.{refl}
use Rattle.drive.specs.CommandCases.{CommandCasesHold}
use Rattle.drive.proofs.Computing.{computing}

pub command_cases_hold : CommandCasesHold
unfolding computing
command_cases_hold = record { all = (record { answered = refl; ended = refl }, (record { answered = refl; ended = refl }, (record { answered = refl; ended = refl }, (record { answered = refl; ended = refl }, (record { answered = refl; ended = refl }, (record { answered = refl; ended = refl }, (record { answered = refl; ended = refl }, (record { answered = refl; ended = refl }, (record { answered = refl; ended = refl }, tt))))))))) }
