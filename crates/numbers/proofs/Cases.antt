-- The numbers of `specs/Cases`, computed.
-- Assumes nothing.
use mathlib.Core.Path.{refl}
use Rattle.laws.specs.Pick.{pick}
use Rattle.numbers.specs.Number.{number_in}
use Rattle.numbers.specs.Cases.{NumberCases}

pub number_cases : NumberCases
unfolding pick number_in
number_cases = record { smallest = refl; largest = refl; zeros_in_front = refl }
