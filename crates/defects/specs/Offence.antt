-- "the offset of the first offence": tests in the order of their offsets, and the first that holds.
use Rattle.std.specs.Prelude.{ℕ, zero, suc, ◌+◌, Bool, List, [], ◌∷◌, Result, Ok, Err}
use Rattle.std.proofs.Math.Option.{Option, some, none}
use Rattle.laws.specs.Pick.{pick}
use Rattle.refusals.specs.Refusal.{number}
use Rattle.defects.specs.declared.offence.Offence.{Offence}

pub record Test : Type 0 where
  pub number : ℕ
  pub offset : ℕ
  pub holds : Bool

-- A number of the table, where its offence lies, and when it is one.
infix 70 ◌at◌when◌
abbrev pub ◌at◌when◌ : ℕ → ℕ → Bool → Test
n at offset when test = record { number = n; offset = offset; holds = test }

-- An offence on paper: its number, and where it lies.
pub record Found : Type 0 where
  pub number : ℕ
  pub offset : ℕ

abbrev pub no_offence : Option Found
no_offence = none

abbrev pub offence_at : ℕ → ℕ → Option Found
offence_at n offset = some (record { number = n; offset = offset })

-- "exactly when no offence lies before it": the first test that holds.
unfoldable pub first_of : List Test → Option Found
first_of [] = no_offence
first_of (test ∷ tests) = pick test.holds (offence_at test.number test.offset) (first_of tests)

-- The same test at so many indices one after another.
unfoldable pub tests_over : (ℕ → Test) → ℕ → ℕ → List Test
tests_over test i zero = []
tests_over test i (suc left) = test i ∷ tests_over test (i + 1) left

-- ---- what a call answers

-- A refusal by its number.
abbrev pub found_on_paper : {A : Type 0} → Result A Offence → Result A Found
found_on_paper (Ok value) = Ok value
found_on_paper (Err offence) = Err (record { number = number offence.refusal; offset = offence.offset })

-- The offence of an answer, if it has one.
abbrev pub offence_in : {A : Type 0} → Result A Offence → Option Found
offence_in (Ok value) = no_offence
offence_in (Err offence) = offence_at (number offence.refusal) offence.offset

-- The first offence, or the value where there is none.
abbrev pub offence_or : {A : Type 0} → Option Found → A → Result A Found
offence_or none value = Ok value
offence_or (some offence) value = Err offence

-- Of the old and the new, what stands after a call with this offence.
abbrev pub unless_found : {A : Type 0} → Option Found → A → A → A
unless_found none old new = new
unless_found (some offence) old new = old

-- The number that is reported, 0 where there is no offence; and where it lies.
abbrev pub number_in : Option Found → ℕ
number_in none = 0
number_in (some offence) = offence.number

abbrev pub offset_in : Option Found → ℕ
offset_in none = 0
offset_in (some offence) = offence.offset
