-- The worked cases of M-102, by computation.
-- Assumes nothing.
use mathlib.Core.Path.{refl}
use Rattle.drive.specs.IgnoredCases.{IgnoredCasesHold}
use Rattle.drive.proofs.Computing.{computing}

pub ignored_cases_hold : IgnoredCasesHold
unfolding computing
ignored_cases_hold = record { own_bit_alone = refl; c_clears_nothing = refl; good_ones_clear = refl; status_leaves_it = refl }
