-- How many sets so many defects take: one at least, as many as hold them, and no more.
-- Assumes nothing.
use Prim.Native.Nat.{ℕ, zero, suc, ◌+◌, ◌-◌, ◌*◌, ◌/◌, ◌≤◌, ◌<◌}
use mathlib.Core.Path.{◌≡◌, refl}
use mathlib.Core.Bool.{Bool, true, false, ◌||◌}
use native.Mathlib.Nat.{le_trans, le_antisymm, lt-div-mul-add, le-div_iff_mul-le, div-lt_iff_lt-mul, lt_of_mul-lt-mul_right, mul-le-mul_right, le-max_right, max-le}
use native.Mathlib.Omega.{arith}
use borrow.Author.Tests.{ltb-true, eqb-true, eqb-false}
use lib.Dec.{eqb, ltb, leb}
use Rattle.laws.proofs.Pick.{either, cases}
use Rattle.laws.proofs.Tests.{and_r}
use Rattle.parts.specs.declared.setup.Setup.{Setup}
use Rattle.defects.specs.Field.{slots}
use Rattle.defects.specs.Place.{field_octets, data_fields}
use Rattle.defects.specs.Encoding.{sets_for, fits}

module _ (s : Setup) (count : ℕ) where
  abbrev each : ℕ
  each = slots (field_octets s)

  pub some_set : 1 ≤ sets_for s count
  unfolding sets_for
  some_set = either (λ (n : ℕ). 1 ≤ n) (eqb each 0) (omega arith) (omega arith)

  -- rounded up, so that none is left over
  held : 0 < each → count ≤ sets_for s count * each
  unfolding sets_for
  held positive =
      cases (λ (n : ℕ). count ≤ n * each) (eqb each 0) (λ none. absurd (omega (arith, eqb-true each 0 none))) (λ some.
      let quotient = (count + each - 1) / each in
      let enough : count ≤ quotient * each = omega (arith, lt-div-mul-add {a = count + each - 1} positive) in
      le_trans enough (mul-le-mul_right each (le-max_right 1 quotient)))

  pub sets_hold : fits s count ≡ true → count ≤ sets_for s count * each
  unfolding fits
  sets_hold e = by_slots (ltb 0 each) refl (and_r (leb (3 * sets_for s count) (data_fields s)) _ e)
    where
      by_slots : (some : Bool) → ltb 0 each ≡ some → (some || eqb count 0) ≡ true → count ≤ sets_for s count * each
      by_slots true t h = held (ltb-true 0 each t)
      by_slots false t h = omega (arith, eqb-true count 0 h)

  -- one set more is begun only where this one is full
  pub begun_before : (set : ℕ) → suc set < sets_for s count → (0 < each) × (suc set * each < count)
  unfolding sets_for
  begun_before set =
      cases (λ (n : ℕ). suc set < n → (0 < each) × (suc set * each < count)) (eqb each 0) (λ none h. absurd (omega arith)) (λ other h.
      let positive : 0 < each = omega (arith, eqb-false each 0 other) in
      let quotient : suc (suc set) ≤ (count + each - 1) / each = omega arith in
      let product = (le-div_iff_mul-le positive).0 quotient in
      (positive, omega arith))

  pub first_of_set : (set : ℕ) → set < sets_for s count → set * each ≤ count
  first_of_set zero h = omega arith
  first_of_set (suc set) h = omega (arith, (begun_before set h).1)

  -- no more than some that hold them
  pub sets_enough : (sets : ℕ) → 0 < sets → count ≤ sets * each → sets_for s count ≤ sets
  unfolding sets_for
  sets_enough sets some held =
      cases (λ (n : ℕ). n ≤ sets) (eqb each 0) (λ none. some) (λ other.
      let positive : 0 < each = omega (arith, eqb-false each 0 other) in
      let few : (count + each - 1) / each < suc sets = (div-lt_iff_lt-mul positive).1 (omega arith) in
      max-le some (omega arith))

  -- some that are full, and one behind them
  pub sets_exact : (before last : ℕ) → count ≡ before * each + last → last ≤ each → (0 < before → 0 < last) → sets_for s count ≡ suc before
  sets_exact before last e few some = le_antisymm (sets_enough (suc before) (omega arith) (omega arith)) (least before e some)
    where
      least : (before : ℕ) → count ≡ before * each + last → (0 < before → 0 < last) → suc before ≤ sets_for s count
      least zero e some = some_set
      least (suc before) e some = let more : 0 < last = some (omega arith) in lt_of_mul-lt-mul_right each (omega (arith, held (omega arith)))
