-- A table of refusals: rows with their numbers, in the order in which they are tested.
use Rattle.std.specs.Prelude.{Bool, true, false, List, [], ◌∷◌, ◌≡◌, ℕ, zero, suc}
use Rattle.std.proofs.Math.Option.{Option, some, none}
use Rattle.laws.specs.Pick.{pick}

infix 70 ◌when◌
pub record Row : Type 0 where
  pub number : ℕ
  pub holds : Bool

-- "Given exactly when": a row's number and its test.
abbrev pub ◌when◌ : ℕ → Bool → Row
n when test = record { number = n; holds = test }

-- "Each number is given when its row holds and no row tested earlier does." 0 stands for no refusal.
abbrev pub first : List Row → ℕ
first [] = 0
first (row ∷ rows) = pick row.holds row.number (first rows)

-- That sentence as a proposition: row n holds, and no row tested earlier does. `first_is_exact` proves it of `first`.
pub data Given (n : ℕ) : List Row → Type 0 where
  here : {row : Row} {rows : List Row} → row.number ≡ n → row.holds ≡ true → Given n (row ∷ rows)
  later : {row : Row} {rows : List Row} → row.holds ≡ false → Given n rows → Given n (row ∷ rows)

-- "A refusal .. changes nothing": of the old and the new, what stands after a call with this refusal.
abbrev pub unless_refused : {A : Type 0} → ℕ → A → A → A
unless_refused zero old new = new
unless_refused (suc n) old new = old

-- "A refusal reports its number and nothing else": an answer on paper has the number of a refusal, or a value.
pub record Paper (A : Type 0) : Type 0 where
  pub refusal : Option ℕ
  pub value : Option A

abbrev pub refused_with : {A : Type 0} → ℕ → Paper A
refused_with n = record { refusal = some n; value = none }

abbrev pub tells : {A : Type 0} → A → Paper A
tells value = record { refusal = none; value = some value }

-- What a call with these rows answers on paper: the number of the first row that holds, or the value.
abbrev pub refused_or : {A : Type 0} → List Row → A → Paper A
refused_or rows value = unless_refused (first rows) (refused_with (first rows)) (tells value)
