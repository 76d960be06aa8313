-- A map without an offence: up to its end every data field is there, whole, and passes its own tests unless it is ignored; and it ends.
-- Assumes nothing.
use Prim.Native.Nat.{ℕ, zero, suc, ◌+◌, ◌*◌, ◌<◌, ◌≤◌}
use mathlib.Core.Path.{◌≡◌, refl}
use mathlib.Core.Bool.{Bool, true, false, ◌&&◌, true≢false}
use mathlib.Core.List.{List, [], ◌∷◌}
use native.Mathlib.Nat.{zero-add, add-zero, le_refl}
use native.Mathlib.Omega.{arith}
use borrow.Author.Tests.{ltb-false, leb-false, ne_eqb}
use lib.Dec.{ltb, leb}
use lib.ListN.{length}
use Rattle.laws.specs.Pick.{pick}
use Rattle.parts.specs.declared.setup.Setup.{Setup}
use Rattle.defects.specs.Offence.{◌at◌when◌, no_offence, first_of}
use Rattle.defects.specs.Defect.{behind_all}
use Rattle.defects.specs.Field.{is_ignored}
use Rattle.defects.specs.Place.{field_octets, data_fields}
use Rattle.defects.specs.Walk.{is_original, is_ended, field_at, walk_at, defects_before, tests_at, tests_from, map_tests}
use Rattle.defects.proofs.WalkSteps.{begins_set}
use Rattle.defects.proofs.TestsAt.{tests_of}
use Rattle.defects.proofs.Fields.{some_field, field_length}
use Rattle.defects.proofs.Offences.{none_head, none_parts}
use Rattle.defects.proofs.PassedFields.{OriginalPassed, original_passed, CopyPassed, copy_passed}

pub record Whole (s : Setup) (octets : List ℕ) (k : ℕ) : Type 0 where
  pub inside : k < data_fields s
  pub whole : k * field_octets s + field_octets s ≤ length octets
  pub passed : is_ignored (field_at s octets k) ≡ false → first_of (tests_of s octets k) ≡ no_offence

-- ---- a whole data field

pub length_field : {s : Setup} {octets : List ℕ} {k : ℕ} → Whole s octets k → length (field_at s octets k) ≡ field_octets s
length_field {s} {octets} {k} w = field_length s octets k w.whole

-- ---- the tests of a map, taken apart

none_from : (alone : Bool) (s : Setup) (octets : List ℕ) (k count : ℕ) → first_of (tests_from alone s octets k count) ≡ no_offence
    → (j : ℕ) → j < count → first_of (tests_at alone s octets (k + j)) ≡ no_offence
unfolding tests_from
none_from alone s octets k zero h j few = absurd (omega arith)
none_from alone s octets k (suc count) h zero few = rw add-zero (none_parts (tests_at alone s octets k) (tests_from alone s octets (suc k) count) h).0
none_from alone s octets k (suc count) h (suc j) few =
    let e : k + suc j ≡ suc k + j = omega arith in
    let rest = (none_parts (tests_at alone s octets k) (tests_from alone s octets (suc k) count) h).1 in
    rw e (none_from alone s octets (suc k) count rest j (omega arith))

-- the tests at a data field before the end, taken apart
whole_at : (s : Setup) (octets : List ℕ) (k : ℕ) (none : Bool) → leb (data_fields s) k ≡ none
    → first_of (pick none (16 at k * field_octets s when true ∷ [])
    (17 at k * field_octets s when ltb (length octets) (k * field_octets s + field_octets s) ∷ pick (is_ignored (field_at s octets k)) [] (tests_of s octets k))) ≡ no_offence
    → Whole s octets k
unfolding pick
whole_at s octets k true e h = absurd (true≢false (none_head _ _ h).0)
whole_at s octets k false e h =
    let own : first_of (pick (is_ignored (field_at s octets k)) [] (tests_of s octets k)) ≡ no_offence = (none_head _ _ h).1 in
    record { inside = leb-false _ _ e; whole = ltb-false _ _ (none_head _ _ h).0; passed = λ heard. rw heard at own }

module _ (alone : Bool) (s : Setup) (octets : List ℕ) (accepted : first_of (map_tests alone s octets) ≡ no_offence) where
  none_at : (k : ℕ) → k ≤ data_fields s → first_of (tests_at alone s octets k) ≡ no_offence
  none_at k h = rw zero-add at (none_from alone s octets 0 (suc (data_fields s)) accepted k (omega arith))

  pub whole : (k : ℕ) → k ≤ data_fields s → is_ended (walk_at s octets k) ≡ false → Whole s octets k
  unfolding tests_at pick
  whole k h going = whole_at s octets k (leb (data_fields s) k) refl (rw going at (none_at k h))

  pub nothing_behind : (k : ℕ) → k ≤ data_fields s → is_ended (walk_at s octets k) ≡ true → (alone && ltb (k * field_octets s) (length octets)) ≡ false
  unfolding tests_at pick
  nothing_behind k h end = (none_head _ _ (rw end at (none_at k h))).0

  -- the map ends
  pub ended : is_ended (walk_at s octets (data_fields s)) ≡ true
  ended = by_test (is_ended (walk_at s octets (data_fields s))) refl
    where
      by_test : (test : Bool) → is_ended (walk_at s octets (data_fields s)) ≡ test → is_ended (walk_at s octets (data_fields s)) ≡ true
      by_test true e = e
      by_test false e = let w = whole (data_fields s) (le_refl (data_fields s)) e in absurd (omega arith)

  pub original_at : (k : ℕ) → k ≤ data_fields s → is_original (walk_at s octets k) (field_at s octets k) ≡ true
      → OriginalPassed s (walk_at s octets k) (behind_all 0 (defects_before s octets k)) (field_at s octets k)
  unfolding pick
  original_at k h begins =
      let (going, heard, first) = begins_set (walk_at s octets k) (field_at s octets k) begins in
      original_passed s _ _ _ _ (rw first at ((whole k h going).passed heard))

  pub copy_at : (k : ℕ) → k ≤ data_fields s → is_ended (walk_at s octets k) ≡ false → is_ignored (field_at s octets k) ≡ false
      → ((walk_at s octets k).copy ≡ 0 → ⊥) → CopyPassed (walk_at s octets k) (field_at s octets (walk_at s octets k).original) (field_at s octets k)
  unfolding pick
  copy_at k h going heard other =
      let w = whole k h going in
      let long : 6 ≤ length (field_at s octets k) = omega (arith, length_field w, some_field s k w.inside) in
      copy_passed _ _ _ _ long (rw (ne_eqb _ _ other) at (w.passed heard))
