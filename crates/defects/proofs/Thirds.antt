-- How many data fields and defects there are up to a data field: a data field for each copy that was passed, and in each set no more defects than a data
-- field holds. So each entry stands three times, and a third of the octets is room enough for the defects.
-- Assumes nothing.
use Prim.Native.Nat.{ℕ, zero, suc, ◌+◌, ◌*◌, ◌/◌, ◌≤◌, min}
use mathlib.Core.Path.{◌≡◌, refl}
use mathlib.Core.Bool.{Bool, true, false}
use mathlib.Core.List.{List, ◌++◌}
use native.Mathlib.Nat.{mul-le-mul_left, mul-le-mul_right}
use native.Mathlib.Omega.{arith}
use borrow.Author.Tests.{eqb-true, eqb-false}
use lib.Dec.{eqb}
use lib.ListN.{length, drop, length-append, length-take}
use Rattle.laws.specs.Pick.{pick}
use Rattle.laws.proofs.Tests.{and_r}
use Rattle.parts.specs.declared.setup.Setup.{Setup}
use Rattle.defects.specs.Field.{front_of, slots, defects_in}
use Rattle.defects.specs.Place.{field_octets}
use Rattle.defects.specs.Walk.{after_original, after_copy, field_at, walk_at, is_original, defects_before}
use Rattle.defects.specs.Steps.{EndsAt}
use Rattle.defects.specs.declared.defect.Defect.{Defect}
use Rattle.defects.specs.declared.walk.Walk.{Walk}
use Rattle.defects.proofs.EntriesLeft.{entries_few}
use Rattle.defects.proofs.WalkSteps.{begins_set, next_listed}

-- sets that have begun
abbrev pub begun : Walk → ℕ
begun w = w.set + min 1 w.copy

pub record Counted (s : Setup) (k : ℕ) (w : Walk) (defects : List Defect) : Type 0 where
  pub fields : 3 * w.set + w.copy ≤ k
  pub copies : w.copy ≤ 2
  pub original : w.original ≤ k
  pub listed : length defects ≤ begun w * slots (field_octets s)

counted_copy : (s : Setup) (k : ℕ) (w : Walk) (defects : List Defect) → (w.copy ≡ 0 → ⊥) → Counted s k w defects → Counted s (suc k) (after_copy w) defects
unfolding pick
counted_copy s k w defects other c = by_third (eqb w.copy 2) refl
  where
    by_third : (third : Bool) → eqb w.copy 2 ≡ third
        → Counted s (suc k)
        (record { set = pick third (w.set + 1) w.set; copy = pick third 0 2; original = w.original; sets = w.sets; cylinder = w.cylinder; head = w.head; last = w.last }) defects
    by_third true e =
        let due : w.copy ≡ 2 = eqb-true _ _ e in
        let same : begun w ≡ w.set + 1 + min 1 0 = omega arith in
        record { fields = omega (arith, c.fields); copies = omega arith; original = omega (arith, c.original); listed = rw same at c.listed }
    by_third false e =
        let second : w.copy ≡ 1 = omega (arith, c.copies, eqb-false w.copy 2 e) in
        let same : begun w ≡ w.set + min 1 2 = omega arith in
        record { fields = omega (arith, c.fields); copies = omega arith; original = omega (arith, c.original); listed = rw same at c.listed }

module _ (s : Setup) (octets : List ℕ) where
  pub few_in_field : (k : ℕ) → length (defects_in (field_at s octets k)) ≤ slots (field_octets s)
  unfolding field_at
  few_in_field k =
      let field = field_at s octets k in
      let short : length field ≤ field_octets s = omega (arith, length-take (field_octets s) (drop (k * field_octets s) octets)) in
      omega (arith, entries_few field 14 (slots (length field)))

  counted_original : (k : ℕ) → Counted s k (walk_at s octets k) (defects_before s octets k) → is_original (walk_at s octets k) (field_at s octets k) ≡ true
      → Counted s (suc k) (after_original (walk_at s octets k) k (front_of (field_at s octets k))) (defects_before s octets k ++ defects_in (field_at s octets k))
  counted_original k c begins =
      let w = walk_at s octets k in
      let (going, heard, first) = begins_set w (field_at s octets k) begins in
      let none : w.copy ≡ 0 = eqb-true _ _ first in
      let before : begun w ≡ w.set = omega arith in
      let listed : length (defects_before s octets k) ≤ w.set * slots (field_octets s) = rw before at c.listed in
      record {
        fields = omega (arith, c.fields);
        copies = omega arith;
        original = omega arith;
        listed = omega (arith, length-append (defects_before s octets k) (defects_in (field_at s octets k)), few_in_field k);
      }

  pub counted : (k : ℕ) → Counted s k (walk_at s octets k) (defects_before s octets k)
  unfolding walk_at defects_before
  counted zero = record { fields = omega arith; copies = omega arith; original = omega arith; listed = omega arith }
  counted (suc k) =
      let c = counted k in
      let w = walk_at s octets k in
      next_listed s octets k (Counted s (suc k)) (record { fields = omega (arith, c.fields); copies = c.copies; original = omega (arith, c.original); listed = c.listed })
      (counted_original k c) (λ other. counted_copy s k w _ other c)

pub third_enough : (s : Setup) (octets : List ℕ) (fields : ℕ) (w : Walk) → EndsAt s octets fields w → 12 * length (defects_before s octets fields) ≤ length octets / 3
third_enough s octets fields w ends =
    let end = walk_at s octets fields in
    let c = counted s octets fields in
    let none = eqb-true end.copy 0 (and_r end.last (eqb end.copy 0) ends.ended) in
    let sets : begun end ≡ end.set = omega arith in
    let listed : length (defects_before s octets fields) ≤ end.set * slots (field_octets s) = rw sets at c.listed in
    let entries : end.set * (12 * slots (field_octets s)) ≤ end.set * field_octets s = mul-le-mul_left end.set (omega arith) in
    let thrice : 3 * end.set * field_octets s ≤ fields * field_octets s = mul-le-mul_right (field_octets s) (omega (arith, c.fields)) in
    omega (arith, ends.whole)
