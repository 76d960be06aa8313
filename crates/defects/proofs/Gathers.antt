-- The defects of a map gathered data field by data field: what is listed so far, that it has room, and that each entry standing three times leaves a
-- third of the octets enough.
-- Assumes nothing.
use Prim.Native.Nat.{ℕ, ◌+◌, ◌-◌, ◌*◌, ◌<◌, ◌≤◌}
use mathlib.Core.Path.{◌≡◌, refl, sym, ap, ◌∙◌}
use mathlib.Core.Bool.{Bool, true, false}
use mathlib.Core.List.{List, ◌++◌}
use native.Mathlib.Numerals.{add-one}
use native.Mathlib.Omega.{arith}
use lib.Dec.{eqb}
use lib.ListN.{length, length-append}
use Rattle.laws.specs.Pick.{pick}
use Rattle.laws.specs.Lists.{written_over}
use Rattle.parts.specs.declared.setup.Setup.{Setup}
use Rattle.defects.specs.Defect.{list_octets}
use Rattle.defects.specs.Field.{is_ignored, front_of}
use Rattle.defects.specs.Walk.{is_ended, after_original, after_copy, after, field_at, walk_at, defects_before}
use Rattle.defects.specs.Steps.{own_defects, FieldListed}
use Rattle.defects.specs.declared.gathering.Gathered.{Gathered}
use Rattle.defects.specs.declared.walk.Walk.{Walk}
use Rattle.laws.proofs.Windows.{length_written, written_next}
use Rattle.defects.proofs.WalkSteps.{walk_next, defects_next, listed_on}
use Rattle.defects.proofs.DefectOctets.{length_list, list_append}

-- which copy is due behind a data field
next_due : (w : Walk) (k : ℕ) (field : List ℕ) → (after w k field).copy ≡ pick (is_ignored field) w.copy (pick (eqb w.copy 0) 1 (pick (eqb w.copy 2) 0 2))
unfolding after pick
next_due w k field = by_tests (is_ignored field) (eqb w.copy 0)
  where
    by_tests : (ignored first : Bool)
        → (pick ignored w (pick first (after_original w k (front_of field)) (after_copy w))).copy ≡ pick ignored w.copy (pick first 1 (pick (eqb w.copy 2) 0 2))
    by_tests true first = refl
    by_tests false true = refl
    by_tests false false = refl

module _ (s : Setup) (octets defects₀ : List ℕ) where
  -- the data fields before k are listed
  pub record Gathering (defects : List ℕ) (count copy k : ℕ) : Type 0 where
    pub due : copy ≡ (walk_at s octets k).copy
    pub counted : count ≡ length (defects_before s octets k)
    pub listed : defects ≡ written_over defects₀ (list_octets (defects_before s octets k))
    pub kept : length defects ≡ length defects₀

  pub gathering_start : Gathering defects₀ 0 0 0
  unfolding walk_at defects_before
  gathering_start = record { due = refl; counted = refl; listed = refl; kept = refl }

  -- fewer are listed before than in the end
  grows : (k n : ℕ) → length (defects_before s octets k) ≤ length (defects_before s octets (k + n))
  grows k n = let (rest, e) = listed_on s octets k n in omega (arith, ap length e, length-append (defects_before s octets k) rest)

  module _ (defects : List ℕ) (count copy k fields : ℕ) (here : Gathering defects count copy k) (going : is_ended (walk_at s octets k) ≡ false) (h : k < fields)
      (room : 12 * length (defects_before s octets fields) ≤ length defects₀) where
    before_next : defects_before s octets (k + 1) ≡ defects_before s octets k ++ own_defects copy (field_at s octets k)
    before_next = ap (defects_before s octets) (add-one k) ∙ defects_next s octets k going ∙ rw here.due

    many_next : length (defects_before s octets (k + 1)) ≡ count + length (own_defects copy (field_at s octets k))
    many_next = ap length before_next ∙ length-append (defects_before s octets k) (own_defects copy (field_at s octets k)) ∙ rw (← here.counted)

    pub own_room : 12 * (count + length (own_defects copy (field_at s octets k))) ≤ length defects
    own_room =
        let last : k + 1 + (fields - (k + 1)) ≡ fields = omega arith in
        let more = rw last at (grows (k + 1) (fields - (k + 1))) in
        omega (arith, many_next, here.kept)

    pub gathering_next : (after' : List ℕ) (r : Gathered) → FieldListed copy count (field_at s octets k) defects after' r → Gathering after' r.count r.copy (k + 1)
    gathering_next after' r done =
        let before = list_octets (defects_before s octets k) in
        let own = list_octets (own_defects copy (field_at s octets k)) in
        let size : 12 * count ≡ length before = rw here.counted (sym (length_list (defects_before s octets k))) in
        let long = length_list (own_defects copy (field_at s octets k)) in
        let fits : 12 * count + length own ≤ length defects = omega (arith, own_room) in
        record {
          due = done.copy' ∙ rw here.due (sym (next_due (walk_at s octets k) k (field_at s octets k))) ∙ sym (ap (λ (w : Walk). w.copy) (ap (walk_at s octets) (add-one k) ∙ walk_next s octets k going));
          counted = done.count' ∙ sym many_next;
          listed = done.slice
              ∙ rw (here.listed, before_next, list_append (defects_before s octets k) (own_defects copy (field_at s octets k)), size) (written_next defects₀ before own);
          kept = ap length done.slice ∙ length_written defects (12 * count) own fits ∙ here.kept;
        }
