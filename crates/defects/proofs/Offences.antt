-- The first offence: how code that tests one thing after the other meets `first_of`, the first offence of tests that follow others, and tests of which none holds.
-- Assumes nothing.
use Prim.Native.Nat.{ℕ, zero, suc, ◌+◌, ◌-◌, ◌<◌, ◌≤◌}
use native.Mathlib.Omega.{arith}
use mathlib.Core.Path.{◌≡◌, refl, sym, ap, ◌∙◌}
use mathlib.Core.Bool.{Bool, true, false, not}
use mathlib.Core.List.{List, [], ◌∷◌, ◌++◌}
use borrow.Author.Tests.{eq-eqb, eqb-true, eqb-false}
use lib.Dec.{eqb}
use Rattle.std.specs.Prelude.{Result, Err, IsErr, IsErrAnd}
use Rattle.std.proofs.Math.Option.{Option, some, none}
use Rattle.std.proofs.lemmas.Result.{err_from_is_err_and}
use Rattle.laws.specs.Pick.{pick}
use Rattle.laws.proofs.Pick.{not_f}
use Rattle.defects.specs.declared.offence.Offence.{Offence}
use Rattle.defects.specs.Offence.{Test, Found, no_offence, offence_at, first_of, tests_over}

-- ---- tests that follow others

-- they are asked where none of those holds
pub first_behind : (tests rest : List Test) → first_of tests ≡ no_offence → first_of (tests ++ rest) ≡ first_of rest
unfolding first_of pick
first_behind [] rest h = refl
first_behind (test ∷ tests) rest h = by_test test.holds h (first_behind tests rest)
  where
    by_test : (holds : Bool) → pick holds (offence_at test.number test.offset) (first_of tests) ≡ no_offence
        → (first_of tests ≡ no_offence → first_of (tests ++ rest) ≡ first_of rest)
        → pick holds (offence_at test.number test.offset) (first_of (tests ++ rest)) ≡ first_of rest
    by_test true h below = cc
    by_test false h below = below h

first_before : (tests rest : List Test) (offence : Found) → first_of tests ≡ some offence → first_of (tests ++ rest) ≡ some offence
unfolding first_of pick
first_before [] rest offence h = cc
first_before (test ∷ tests) rest offence h = by_test test.holds h (first_before tests rest offence)
  where
    by_test : (holds : Bool) → pick holds (offence_at test.number test.offset) (first_of tests) ≡ some offence
        → (first_of tests ≡ some offence → first_of (tests ++ rest) ≡ some offence)
        → pick holds (offence_at test.number test.offset) (first_of (tests ++ rest)) ≡ some offence
    by_test true h below = h
    by_test false h below = below h

-- the same for code that has the first offence of those in hand
pub goes_on : (tests rest : List Test) {x : Option Found} → no_offence ≡ first_of tests → x ≡ first_of rest → x ≡ first_of (tests ++ rest)
goes_on tests rest e p = p ∙ sym (first_behind tests rest (sym e))

pub stops : (tests rest : List Test) {offence : Found} → some offence ≡ first_of tests → some offence ≡ first_of (tests ++ rest)
stops tests rest {offence} e = sym (first_before tests rest offence (sym e))

-- one test in front
pub one_passed : (test : Test) (tests : List Test) {x : Option Found} → no_offence ≡ first_of (test ∷ []) → x ≡ first_of tests → x ≡ first_of (test ∷ tests)
one_passed test tests e p = goes_on (test ∷ []) tests e p

pub one_holds : (test : Test) (tests : List Test) {offence : Found} → some offence ≡ first_of (test ∷ []) → some offence ≡ first_of (test ∷ tests)
one_holds test tests e = stops (test ∷ []) tests e

pub none_left : no_offence ≡ first_of []
unfolding first_of
none_left = refl

pub one_due : (test : Test) → test.holds ≡ true → first_of (test ∷ []) ≡ offence_at test.number test.offset
unfolding first_of pick
one_due test h = rw h

pub one_fails : (test : Test) → test.holds ≡ false → no_offence ≡ first_of (test ∷ [])
unfolding first_of pick
one_fails test h = rw h

-- a `return` behind tests
pub ruleset judged = (one_holds, one_passed, none_left)

-- ---- the same test at index after index: what is left has the first offence of all

-- so many are left at i, and one is this one
over_split : (test : ℕ → Test) (i end : ℕ) → i < end → tests_over test i (end - i) ≡ test i ∷ tests_over test (i + 1) (end - (i + 1))
unfolding tests_over
over_split test i end h = let e : end - i ≡ suc (end - (i + 1)) = omega arith in rw e

pub over_next : (test : ℕ → Test) (i end : ℕ) (all : Option Found) → i < end → no_offence ≡ first_of (test i ∷ [])
    → all ≡ first_of (tests_over test i (end - i)) → all ≡ first_of (tests_over test (i + 1) (end - (i + 1)))
over_next test i end all h p e = e ∙ ap first_of (over_split test i end h) ∙ first_behind (test i ∷ []) _ (sym p)

pub over_hit : (test : ℕ → Test) (i end : ℕ) (all : Option Found) {offence : Found} → i < end → some offence ≡ first_of (test i ∷ [])
    → all ≡ first_of (tests_over test i (end - i)) → some offence ≡ all
over_hit test i end all h p e = stops (test i ∷ []) _ p ∙ sym (e ∙ ap first_of (over_split test i end h))

pub over_end : (test : ℕ → Test) (i end : ℕ) (all : Option Found) → end ≤ i → all ≡ first_of (tests_over test i (end - i)) → no_offence ≡ all
unfolding first_of tests_over
over_end test i end all h e = let z : end - i ≡ 0 = omega arith in sym (e ∙ rw z)

-- ---- where no test holds

pub none_head : (test : Test) (tests : List Test) → first_of (test ∷ tests) ≡ no_offence → (test.holds ≡ false) × (first_of tests ≡ no_offence)
unfolding first_of pick
none_head test tests h = by_test test.holds refl h
  where
    by_test : (holds : Bool) → test.holds ≡ holds → pick holds (offence_at test.number test.offset) (first_of tests) ≡ no_offence
        → (test.holds ≡ false) × (first_of tests ≡ no_offence)
    by_test true e h = absurd (cc)
    by_test false e h = (e, h)

pub not_held : (test : Test) → no_offence ≡ first_of (test ∷ []) → test.holds ≡ false
not_held test e = (none_head test [] (sym e)).0

pub none_parts : (tests rest : List Test) → first_of (tests ++ rest) ≡ no_offence → (first_of tests ≡ no_offence) × (first_of rest ≡ no_offence)
none_parts tests rest h = by_found (first_of tests) refl
  where
    by_found : (x : Option Found) → first_of tests ≡ x → (first_of tests ≡ no_offence) × (first_of rest ≡ no_offence)
    by_found none e = (e, sym (first_behind tests rest e) ∙ h)
    by_found (some offence) e = let before = first_before tests rest offence e in absurd (cc)

pub none_over : (test : ℕ → Test) (i count : ℕ) → first_of (tests_over test i count) ≡ no_offence → (j : ℕ) → i ≤ j → j < i + count → (test j).holds ≡ false
unfolding tests_over
none_over test i zero h j low high = absurd (omega arith)
none_over test i (suc count) h j low high =
    let (this, rest) = none_head (test i) (tests_over test (i + 1) count) h in
    by_index (eqb j i) refl this (none_over test (i + 1) count rest j)
  where
    by_index : (same : Bool) → eqb j i ≡ same → (test i).holds ≡ false → (i + 1 ≤ j → j < i + 1 + count → (test j).holds ≡ false) → (test j).holds ≡ false
    by_index true e this below = rw (eqb-true j i e) this
    by_index false e this below = let other = eqb-false j i e in below (omega arith) (omega arith)

-- ---- what holds of each of the tests

pub data All (P : Test → Type 0) : List Test → Type 0 where
  end : All P []
  next : {test : Test} {tests : List Test} → P test → All P tests → All P (test ∷ tests)

pub both : {P : Test → Type 0} {tests rest : List Test} → All P tests → All P rest → All P (tests ++ rest)
both end q = q
both (next h p) q = next h (both p q)

pub over : {P : Test → Type 0} (test : ℕ → Test) (i left : ℕ) → ((j : ℕ) → i ≤ j → j < i + left → P (test j)) → All P (tests_over test i left)
unfolding tests_over
over test i zero p = end
over test i (suc left) p = next (p i (omega arith) (omega arith)) (over test (i + 1) left (λ j h l. p j (omega arith) (omega arith)))

-- none of them holds
abbrev pub Passed : List Test → Type 0
Passed tests = All (λ test. test.holds ≡ false) tests

pub none_found : {tests : List Test} → Passed tests → first_of tests ≡ no_offence
unfolding first_of pick
none_found end = refl
none_found (next h p) = rw h (none_found p)

pub all_passed : (tests : List Test) → first_of tests ≡ no_offence → Passed tests
all_passed [] h = end
all_passed (test ∷ tests) h = let (this, rest) = none_head test tests h in next this (all_passed tests rest)

-- a test that two numbers differ
pub as_it_was_lem : {a b : ℕ} → a ≡ b → not (eqb a b) ≡ false
as_it_was_lem {a} {b} e = not_f (eqb a b) (eq-eqb a b e)

pub as_itself : (a : ℕ) → not (eqb a a) ≡ false
as_itself a = as_it_was_lem {a = a} refl

-- ---- the exit of a `?`

pub passed_on : {A : Type 0} {r : Result A Offence} {offence : Offence} → IsErr r × IsErrAnd r (λ carried. carried ≡ offence) → r ≡ Err offence
passed_on {r = r} e = let p = err_from_is_err_and r e.1 in p.1 ∙ ap Err p.2
