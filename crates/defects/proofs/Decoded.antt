-- `specs/Decoded` proved: what passed its tests at one data field holds to the end of the map.
-- Assumes nothing.
use Prim.Native.Nat.{ℕ, zero, suc, ◌<◌, ◌≤◌}
use mathlib.Core.Path.{◌≡◌, refl, sym, ap, ◌∙◌}
use mathlib.Core.Bool.{Bool, true, false, false≢true}
use mathlib.Core.List.{List, [], ◌∷◌, ◌++◌}
use native.Mathlib.Nat.{le_refl}
use native.Mathlib.Omega.{arith}
use borrow.Author.Tests.{eqb-true, eqb-false}
use lib.Dec.{eqb}
use lib.ListN.{length}
use Rattle.laws.proofs.Pick.{cases}
use Rattle.laws.proofs.Tests.{and_l, and_r}
use Rattle.parts.specs.declared.setup.Setup.{Setup}
use Rattle.defects.specs.Offence.{no_offence, first_of}
use Rattle.defects.specs.Field.{front_of}
use Rattle.defects.specs.Place.{data_fields}
use Rattle.defects.specs.Walk.{is_ended, after_original, field_at, walk_at, is_original, defects_before, map_tests}
use Rattle.defects.specs.Encoding.{are_listable, is_listable}
use Rattle.defects.specs.Decoded.{Decoded}
use Rattle.defects.specs.declared.defect.Defect.{Defect}
use Rattle.defects.specs.declared.walk.Walk.{Walk}
use Rattle.defects.proofs.WalkSteps.{next_step}
use Rattle.defects.proofs.PassedFields.{FrontPassed}
use Rattle.defects.proofs.Standing.{Standing, at_outset, in_set, behind_set, standing}
use Rattle.defects.proofs.Accepted.{ended, original_at}

listable_append : (s : Setup) (a b : List Defect) → are_listable s a ≡ true → are_listable s b ≡ true → are_listable s (a ++ b) ≡ true
unfolding are_listable
listable_append s [] b p q = q
listable_append s (d ∷ a) b p q = rw (and_l (is_listable s d) (are_listable s a) p) (listable_append s a b (and_r (is_listable s d) (are_listable s a) p) q)

-- copy 0 of set 0 was passed
abbrev pub Begun : Walk → Type 0
Begun w = w.set ≡ 0 → w.copy ≡ 0 → ⊥

pub record Storage (s : Setup) (w : Walk) : Type 0 where
  pub cylinder : w.cylinder < s.cylinders
  pub head : w.head < s.heads
  pub sets : 0 < w.sets

module _ (alone : Bool) (s : Setup) (octets : List ℕ) (accepted : first_of (map_tests alone s octets) ≡ no_offence) where
  listable_before : (k : ℕ) → k ≤ data_fields s → are_listable s (defects_before s octets k) ≡ true
  unfolding defects_before are_listable
  listable_before zero h = refl
  listable_before (suc k) h =
      let field = field_at s octets k in
      listable_append s (defects_before s octets k) _ (listable_before k (omega arith))
      (cases (λ (defects : List Defect). are_listable s defects ≡ true) (is_original (walk_at s octets k) field)
      (λ begins. (original_at alone s octets accepted k (omega arith) begins).listable) (λ other. refl))

  stored_next : (k : ℕ) → k ≤ data_fields s → is_original (walk_at s octets k) (field_at s octets k) ≡ true
      → (Begun (walk_at s octets k) → Storage s (walk_at s octets k)) → Storage s (after_original (walk_at s octets k) k (front_of (field_at s octets k)))
  stored_next k h begins before = by_set (eqb (walk_at s octets k).set 0) refl
    where
      front : FrontPassed s (walk_at s octets k) (length (field_at s octets k)) (front_of (field_at s octets k))
      front = (original_at alone s octets accepted k h begins).front

      by_set : (opens : Bool) → eqb (walk_at s octets k).set 0 ≡ opens → Storage s (after_original (walk_at s octets k) k (front_of (field_at s octets k)))
      by_set true e = let (sets, cylinder, head) = front.opens (eqb-true _ _ e) in record { cylinder = cylinder; head = head; sets = sets }
      by_set false e =
          let (sets, cylinder, head) = front.follows (eqb-false _ _ e) in
          let held = before (λ none first. eqb-false _ _ e none) in
          record { cylinder = rw cylinder held.cylinder; head = rw head held.head; sets = rw sets held.sets }

  stored : (k : ℕ) → k ≤ data_fields s → Begun (walk_at s octets k) → Storage s (walk_at s octets k)
  unfolding walk_at
  stored zero h begun = absurd (begun refl refl)
  stored (suc k) h begun =
      let before = stored k (omega arith) in
      next_step (λ (w : Walk). Begun w → Storage s w) s octets k (λ ended. before) (λ going ignored. before)
      (λ begins begun. stored_next k (omega arith) begins before)
      (λ going heard other begun. let held = before (λ none first. other first) in record { cylinder = held.cylinder; head = held.head; sets = held.sets })
      begun

  begun_at_end : Begun (walk_at s octets (data_fields s))
  begun_at_end none first = by_standing (walk_at s octets (data_fields s)) (ended alone s octets accepted) (standing s octets (data_fields s)) none first
    where
      by_standing : (w : Walk) → is_ended w ≡ true → Standing s octets (data_fields s) w → Begun w
      by_standing w e (at_outset o) none first = false≢true (ap (λ (w : Walk). w.last) (sym o) ∙ and_l w.last _ e)
      by_standing w e (in_set low high same r) none first = omega arith
      by_standing w e (behind_set first' next r) none first = omega arith

  pub stored_at_end : Storage s (walk_at s octets (data_fields s))
  stored_at_end = stored (data_fields s) (le_refl (data_fields s)) begun_at_end

  pub storage_inside : ((walk_at s octets (data_fields s)).cylinder < s.cylinders) × ((walk_at s octets (data_fields s)).head < s.heads)
  storage_inside = (stored_at_end.cylinder, stored_at_end.head)

pub decoded : Decoded
decoded =
    record {
      defects_inside = λ alone s octets accepted. listable_before alone s octets accepted (data_fields s) (le_refl (data_fields s));
      storage_inside = storage_inside;
    }
