-- The first row that holds is the one that is given: both directions, for every table and every number.
-- Assumes nothing.
use Prim.Native.Nat.{ℕ, suc, ◌≤◌}
use mathlib.Core.Path.{◌≡◌, refl, subst}
use mathlib.Core.Bool.{Bool, true, false, ◌&&◌}
use mathlib.Core.List.{List, [], ◌∷◌}
use mathlib.Core.Logic.{◌↔◌}
use native.Mathlib.Omega.{arith}
use borrow.Author.Tests.{ltb-true, leb-true}
use lib.Dec.{ltb, leb}
use Rattle.laws.specs.Pick.{pick}
use Rattle.laws.proofs.Tests.{and_l, and_r}
use Rattle.laws.specs.Rows.{Row, first, Given, here, later}

at_head : (n : ℕ) (row : Row) (rows : List Row) (test : Bool) → row.holds ≡ test → pick test row.number (first rows) ≡ n
    → (first rows ≡ n → Given n rows) → Given n (row ∷ rows)
unfolding pick
at_head n row rows true h e below = here e h
at_head n row rows false h e below = later h (below e)

given_of : (n : ℕ) (rows : List Row) → first rows ≡ suc n → Given (suc n) rows
given_of n [] e = absurd (omega arith)
given_of n (row ∷ rows) e = at_head (suc n) row rows row.holds refl e (given_of n rows)

first_of_lem : {n : ℕ} {rows : List Row} → Given n rows → first rows ≡ n
unfolding pick
first_of_lem (here e h) = rw h e
first_of_lem (later h g) = rw h (first_of_lem g)

pub first_is_exact : (n : ℕ) (rows : List Row) → first rows ≡ suc n ↔ Given (suc n) rows
first_is_exact n rows = (given_of n rows, first_of_lem)

-- no row is given: the first one does not hold, and none of the rest is given
pub row_off : (test : Bool) (n rest : ℕ) → pick test (suc n) rest ≡ 0 → test ≡ false
unfolding pick
row_off true n rest e = absurd (omega arith)
row_off false n rest e = refl

pub rows_rest : (test : Bool) (n rest : ℕ) → pick test (suc n) rest ≡ 0 → rest ≡ 0
unfolding pick
rows_rest true n rest e = absurd (omega arith)
rows_rest false n rest e = e

-- ---- tables whose rows are all numbered, and what none of them holds of

-- every row's number is one that is given: 0 stands for none
abbrev pub numbered : List Row → Bool
numbered [] = true
numbered (row ∷ rows) = ltb 0 row.number && numbered rows

abbrev pub Passed : List Row → Type 0
Passed [] = Unit
Passed (row ∷ rows) = (row.holds ≡ false) × Passed rows

pub none_given : (rows : List Row) → Passed rows → first rows ≡ 0
unfolding pick
none_given [] p = refl
none_given (row ∷ rows) p = rw p.0 (none_given rows p.1)

pub all_passed : (rows : List Row) → numbered rows ≡ true → first rows ≡ 0 → Passed rows
unfolding pick
all_passed [] n e = tt
all_passed (row ∷ rows) n e = at_head row.holds refl e (all_passed rows (and_r (ltb 0 row.number) (numbered rows) n))
  where
    at_head : (test : Bool) → row.holds ≡ test → pick test row.number (first rows) ≡ 0 → (first rows ≡ 0 → Passed rows) → Passed (row ∷ rows)
    at_head true h e below = absurd (let p = ltb-true 0 row.number (and_l (ltb 0 row.number) (numbered rows) n) in omega arith)
    at_head false h e below = (h, below e)

-- what holds of every row's number holds of the number that is given
abbrev pub EachNumber : (ℕ → Type 0) → List Row → Type 0
EachNumber P [] = Unit
EachNumber P (row ∷ rows) = P row.number × EachNumber P rows

pub first_among : (P : ℕ → Type 0) (rows : List Row) → EachNumber P rows → (n : ℕ) → first rows ≡ suc n → P (suc n)
first_among P rows each n e = go (given_of n rows e) each
  where
    go : {n : ℕ} {rows : List Row} → Given n rows → EachNumber P rows → P n
    go (here p h) each = subst P p each.0
    go (later h g) each = go g each.1

-- no number over the largest of the table's is given
abbrev pub numbered_up_to : ℕ → List Row → Bool
numbered_up_to bound [] = true
numbered_up_to bound (row ∷ rows) = leb row.number bound && numbered_up_to bound rows

pub first_up_to : (bound : ℕ) (rows : List Row) → numbered_up_to bound rows ≡ true → first rows ≤ bound
unfolding pick
first_up_to bound [] n = omega arith
first_up_to bound (row ∷ rows) n =
    by_test row.holds (leb-true row.number bound (and_l (leb row.number bound) (numbered_up_to bound rows) n))
    (first_up_to bound rows (and_r (leb row.number bound) (numbered_up_to bound rows) n))
  where
    by_test : (test : Bool) → row.number ≤ bound → first rows ≤ bound → pick test row.number (first rows) ≤ bound
    by_test true h below = h
    by_test false h below = below
