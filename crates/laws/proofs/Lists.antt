-- Lists as tables and as lent slices: a table's entry, what holds of each of a list, what a run of stores leaves.
-- Assumes nothing.
use Prim.Native.Nat.{ℕ, zero, suc, ◌+◌, ◌-◌, ◌<◌, ◌≤◌, min}
use mathlib.Core.Path.{◌≡◌, refl, ap, ◌∙◌}
use mathlib.Core.Bool.{Bool, true, false, ◌&&◌, ◌||◌, false≢true}
use mathlib.Core.List.{List, [], ◌∷◌}
use native.Mathlib.Nat.{zero-add, add-zero, zero-min, min-zero, suc-min-suc}
use native.Mathlib.Omega.{arith}
use borrow.Author.Tests.{eqb-true, eqb-false}
use lib.Dec.{eqb}
use lib.ListN.{length, get_or, take, drop}
use lib.Seq.{sets, sets-eq}
use Rattle.laws.proofs.Tests.{and_l, and_r}
use Rattle.laws.specs.Lists.{written_over, table_from, one_of, one_of_or}

-- ---- a table's rule, at each entry

pub table_from_lem : (rule : ℕ → ℕ) (start count k : ℕ) → k < count → get_or (table_from rule start count) k 0 ≡ rule (start + k)
table_from_lem rule start zero k h = absurd (omega arith)
table_from_lem rule start (suc count) zero h = rw add-zero
table_from_lem rule start (suc count) (suc k) h =
    let e : start + suc k ≡ suc start + k = omega arith in
    rw e (table_from_lem rule (suc start) count k (omega arith))

pub table_at : (rule : ℕ → ℕ) (count k : ℕ) → k < count → get_or (table_from rule 0 count) k 0 ≡ rule k
table_at rule count k h = table_from_lem rule 0 count k h ∙ ap rule (zero-add k)

pub length_table : (rule : ℕ → ℕ) (start count : ℕ) → length (table_from rule start count) ≡ count
length_table rule start zero = refl
length_table rule start (suc count) = ap suc (length_table rule (suc start) count)

-- a table's front and its rest are tables
pub take_table : (rule : ℕ → ℕ) (start count n : ℕ) → take n (table_from rule start count) ≡ table_from rule start (min n count)
take_table rule start count zero = rw (zero-min count)
take_table rule start zero (suc n) = rw (min-zero (suc n))
take_table rule start (suc count) (suc n) = rw (suc-min-suc n count) (ap (λ (rest : List ℕ). rule start ∷ rest) (take_table rule (suc start) count n))

pub drop_table : (rule : ℕ → ℕ) (start count n : ℕ) → drop n (table_from rule start count) ≡ table_from rule (start + n) (count - n)
drop_table rule start count zero = let e : count - 0 ≡ count = omega arith in rw (add-zero start, e)
drop_table rule start zero (suc n) = let e : 0 - suc n ≡ 0 = omega arith in rw e
drop_table rule start (suc count) (suc n) =
    let e : start + suc n ≡ suc start + n = omega arith in
    let f : suc count - suc n ≡ count - n = omega arith in
    rw (e, f) (drop_table rule (suc start) count n)

-- ---- one computed test over all numbers below a bound; what holds of each of a list

abbrev pub every_below : ℕ → (ℕ → Bool) → Bool
every_below zero test = true
every_below (suc n) test = test n && every_below n test

pub every_below_lem : (bound : ℕ) (test : ℕ → Bool) → every_below bound test ≡ true → (n : ℕ) → n < bound → test n ≡ true
every_below_lem zero test e n h = absurd (omega arith)
every_below_lem (suc bound) test e n h = last_or_below (eqb n bound) refl (every_below_lem bound test (and_r (test bound) (every_below bound test) e) n)
  where
    last_or_below : (last : Bool) → eqb n bound ≡ last → (n < bound → test n ≡ true) → test n ≡ true
    last_or_below true p below = rw (eqb-true n bound p) (and_l (test bound) (every_below bound test) e)
    last_or_below false p below = let q = eqb-false n bound p in below (omega arith)

abbrev pub Each : (ℕ → Type 0) → List ℕ → Type 0
Each P [] = Unit
Each P (n ∷ list) = P n × Each P list

found_or : (P : Type 0) (found this : Bool) → (found ≡ true → P) → (this ≡ true → P) → (found || this) ≡ true → P
found_or P true this f g e = f refl
found_or P false this f g e = g e

each_one_of_or : (P : ℕ → Type 0) (found : Bool) (list : List ℕ) (n : ℕ) → (found ≡ true → P n) → one_of_or found list n ≡ true → Each P list → P n
each_one_of_or P found [] n f e h = f e
each_one_of_or P found (m ∷ list) n f e h =
    each_one_of_or P (found || eqb n m) list n (found_or (P n) found (eqb n m) f (λ p. rw (eqb-true n m p) h.0)) e h.1

pub each_one_of : (P : ℕ → Type 0) (list : List ℕ) (n : ℕ) → one_of list n ≡ true → Each P list → P n
each_one_of P list n = each_one_of_or P false list n (λ e. absurd (false≢true e))

abbrev pub every : (ℕ → Bool) → List ℕ → Bool
every test [] = true
every test (n ∷ list) = test n && every test list

each_passes : (test : ℕ → Bool) (list : List ℕ) → every test list ≡ true → Each (λ n. test n ≡ true) list
each_passes test [] e = tt
each_passes test (n ∷ list) e = (and_l (test n) (every test list) e, each_passes test list (and_r (test n) (every test list) e))

pub every_one_of : (test : ℕ → Bool) (list : List ℕ) (n : ℕ) → one_of list n ≡ true → every test list ≡ true → test n ≡ true
every_one_of test list n e h = each_one_of (λ m. test m ≡ true) list n e (each_passes test list h)

-- ---- stores at the front of a list

pub stored : (list front : List ℕ) → length front ≤ length list → sets list 0 front ≡ written_over list front
stored list front h = sets-eq front list 0 (omega arith) ∙ rw zero-add
