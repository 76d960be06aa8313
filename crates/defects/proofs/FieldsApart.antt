-- No word belongs to two data fields: their sectors differ, so they lie a whole sector apart.
-- Assumes nothing.
use Prim.Native.Nat.{ℕ, suc, ◌+◌, ◌-◌, ◌*◌, ◌%◌, ◌<◌, ◌≤◌}
use mathlib.Core.Path.{◌≡◌, refl, sym, ap, ◌∙◌}
use mathlib.Core.Bool.{Bool, true, false, and-false}
use native.Mathlib.Nat.{mul-le-mul_right, suc-mul, mul-add-mod_self_right, mod-eq_of_lt, eq_of_mul-eq-mul_right}
use native.Mathlib.Omega.{arith}
use borrow.Author.Tests.{le-ltb, lt-leb, ltb-true, ltb-false}
use lib.Dec.{ltb, leb}
use Rattle.parts.specs.Setup.{within_limits, sector_words, sector_number, sector_start}
use Rattle.parts.specs.declared.setup.Setup.{Setup}
use Rattle.defects.specs.Place.{data_fields, place_of}
use Rattle.defects.specs.Sectors.{field_start}
use Rattle.defects.specs.OnTheCylinder.{is_of_field}
use Rattle.defects.proofs.Fields.{field}
use Rattle.defects.proofs.Places.{places}

-- a number tells its quotient and its remainder
same_parts : (n a b x y : ℕ) → x < n → y < n → a * n + x ≡ b * n + y → (a ≡ b) × (x ≡ y)
same_parts n a b x y hx hy e =
    let rest : x ≡ y = sym (mul-add-mod_self_right a n x ∙ mod-eq_of_lt hx) ∙ ap (λ (m : ℕ). m % n) e ∙ mul-add-mod_self_right b n y ∙ mod-eq_of_lt hy in
    (eq_of_mul-eq-mul_right n (omega arith) a b (omega arith), rest)

abbrev number_of : Setup → ℕ → ℕ
number_of s k = sector_number s (place_of s k)

same_sector : (s : Setup) (j k : ℕ) → within_limits s ≡ true → j < data_fields s → k < data_fields s → number_of s j ≡ number_of s k → j ≡ k
unfolding sector_number place_of
same_sector s j k w hj hk e =
    let (track, sector) = same_parts s.sectors _ _ (j % s.sectors) (k % s.sectors) (field s j w hj).sector (field s k w hk).sector e in
    let head : (place_of s j).head ≡ (place_of s k).head = omega arith in
    places.distinct s j k w hj hk (λ i. record { cylinder = s.cylinders - 1; head = head i; sector = sector i })

-- of two sectors the one with the higher number begins behind the other
sector_behind : (words a b : ℕ) → a < b → a * words + words ≤ b * words
sector_behind words a b h = omega (arith, mul-le-mul_right {m = suc a} words h, suc-mul a words)

pub fields_apart : (s : Setup) (j k i : ℕ) → within_limits s ≡ true → j < data_fields s → k < data_fields s → (j ≡ k → ⊥) → i < s.field1
    → is_of_field s j (field_start s k + i) ≡ false
unfolding field_start sector_start
fields_apart s j k i w hj hk other h = by_test (ltb (number_of s j) (number_of s k)) refl
  where
    by_test : (below : Bool) → ltb (number_of s j) (number_of s k) ≡ below → is_of_field s j (field_start s k + i) ≡ false
    by_test true e =
        let far = sector_behind (sector_words s) (number_of s j) (number_of s k) (ltb-true _ _ e) in
        rw (le-ltb (field_start s k + i) (field_start s j + s.field1) (omega arith)) (and-false (leb (field_start s j) (field_start s k + i)))
    by_test false e =
        let differ : number_of s j ≡ number_of s k → ⊥ = λ same. other (same_sector s j k w hj hk same) in
        let far = sector_behind (sector_words s) (number_of s k) (number_of s j) (omega (arith, ltb-false (number_of s j) (number_of s k) e)) in
        rw (lt-leb (field_start s j) (field_start s k + i) (omega arith))
