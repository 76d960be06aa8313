-- No second answer: two answers that satisfy what `number_of` promises are equal.
-- Assumes nothing.
use Prim.Native.Nat.{ℕ}
use mathlib.Core.Path.{◌≡◌}
use mathlib.Core.List.{List}
use Rattle.laws.proofs.Only.{answer_only}
use Rattle.numbers.specs.Number.{number_in}
use Rattle.std.specs.Prelude.{Option}

pub number_of_only : (digits : List ℕ) (r s : Option ℕ) → r ≡ number_in digits → s ≡ number_in digits → r ≡ s
number_of_only digits r s p q = answer_only p q
