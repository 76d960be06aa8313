-- `number::number_of` meets its contract: what is left to read spells, behind what was read, the number of all.
-- Assumes nothing.
use Prim.Native.Nat.{ℕ, ◌≤◌}
use mathlib.Core.Path.{◌≡◌}
use mathlib.Core.List.{List}
use lib.ListN.{length, drop}
use Rattle.numbers.specs.Number.{decimal_after}
use Rattle.numbers.proofs.number.number_of.Given as goal

pub record Reading (digits : List ℕ) (number i : ℕ) : Type 0 where
  pub some : 1 ≤ length digits
  pub few : length digits ≤ 10
  pub small : number ≤ 4294967295
  pub left : decimal_after number (drop i digits) ≡ decimal_after 0 digits

abbrev pub invariant-loop-digit : goal.invariant-loop-digit
invariant-loop-digit l = Reading l.digits l.number l.digit-index
