-- The defects that octets list, one after another: how many, a run of them, their octets, what holds of each, and the order of a list in two parts.
-- Assumes nothing.
use Prim.Native.Nat.{ℕ, zero, suc, ◌+◌, ◌-◌, ◌*◌, ◌/◌, ◌%◌, ◌<◌, ◌≤◌, min}
use mathlib.Core.Path.{◌≡◌, refl, ap, ap₂, ◌∙◌}
use mathlib.Core.Bool.{true, ◌&&◌}
use mathlib.Core.List.{List, [], ◌∷◌, ◌++◌}
use native.Mathlib.Omega.{arith}
use borrow.Author.Tests.{ltb-true}
use lib.ListN.{length, take, drop}
use lib.Seq.{take-add, take_all, drop-drop}
use Rattle.laws.specs.Octets.{AllOctets}
use Rattle.laws.proofs.Tests.{and_l, and_r}
use Rattle.parts.specs.declared.setup.Setup.{Setup}
use Rattle.parts.proofs.Bounds.{Limits}
use Rattle.defects.specs.Defect.{defect_at, list_octets, behind_all, behind}
use Rattle.defects.specs.Encoding.{list_from, defects_listed, is_listable, are_listable}
use Rattle.defects.specs.EncodeSteps.{AllNear}
use Rattle.defects.specs.RoundTrip.{AllFitting}
use Rattle.defects.specs.declared.defect.Defect.{Defect}
use Rattle.defects.proofs.DefectOctets.{defect_fits, octets_of_defect}

-- ---- a run of the list

pub length_listed : (octets : List ℕ) (at count : ℕ) → length (list_from octets at count) ≡ count
unfolding list_from
length_listed octets at zero = refl
length_listed octets at (suc count) = ap suc (length_listed octets (at + 12) count)

pub listed_first : (octets : List ℕ) (at count : ℕ) → 0 < count → list_from octets at count ≡ defect_at at octets ∷ list_from octets (at + 12) (count - 1)
unfolding list_from
listed_first octets at zero h = absurd (omega arith)
listed_first octets at (suc count) h = let left : suc count - 1 ≡ count = omega arith in rw left

pub listed_drop : (octets : List ℕ) (at count n : ℕ) → drop n (list_from octets at count) ≡ list_from octets (at + 12 * n) (count - n)
unfolding list_from
listed_drop octets at count zero =
    let there : at + 12 * 0 ≡ at = omega arith in
    let left : count - 0 ≡ count = omega arith in
    rw (there, left)
listed_drop octets at zero (suc n) = let none : 0 - suc n ≡ 0 = omega arith in rw none
listed_drop octets at (suc count) (suc n) =
    let there : at + 12 * suc n ≡ at + 12 + 12 * n = omega arith in
    let left : suc count - suc n ≡ count - n = omega arith in
    rw (there, left) (listed_drop octets (at + 12) count n)

pub listed_take : (octets : List ℕ) (at count n : ℕ) → take n (list_from octets at count) ≡ list_from octets at (min n count)
unfolding list_from
listed_take octets at count zero = let none : min 0 count ≡ 0 = omega arith in rw none
listed_take octets at zero (suc n) = let none : min (suc n) 0 ≡ 0 = omega arith in rw none
listed_take octets at (suc count) (suc n) =
    let one : min (suc n) (suc count) ≡ suc (min n count) = omega arith in
    rw one (ap (λ (rest : List Defect). defect_at at octets ∷ rest) (listed_take octets (at + 12) count n))

-- their octets are those that list them
module _ (octets : List ℕ) (all : AllOctets octets) where
  pub listed_octets : (at count : ℕ) → at + 12 * count ≤ length octets → list_octets (list_from octets at count) ≡ take (12 * count) (drop at octets)
  unfolding list_from
  listed_octets at zero h = refl
  listed_octets at (suc count) h =
      let more : 12 * suc count ≡ 12 + 12 * count = omega arith in
      rw (more, take-add 12 (12 * count) (drop at octets), drop-drop 12 at octets)
      (ap₂ ◌++◌ (octets_of_defect at octets (omega arith) all) (listed_octets (at + 12) count (omega arith)))

  pub same_octets : length octets % 12 ≡ 0 → list_octets (defects_listed octets) ≡ octets
  same_octets whole = listed_octets 0 (length octets / 12) (omega arith) ∙ take_all (12 * (length octets / 12)) octets (omega arith)

  pub all_fitting : (at count : ℕ) → AllFitting (list_from octets at count)
  unfolding list_from
  all_fitting at zero = tt
  all_fitting at (suc count) = (defect_fits at octets all, all_fitting (at + 12) count)

-- ---- what holds of each

pub listable_first : (s : Setup) (octets : List ℕ) (at count : ℕ) → 0 < count
    → are_listable s (list_from octets at count) ≡ is_listable s (defect_at at octets) && are_listable s (list_from octets (at + 12) (count - 1))
unfolding are_listable
listable_first s octets at count h = rw (listed_first octets at count h)

pub near : (s : Setup) (list : List Defect) → Limits s → are_listable s list ≡ true → AllNear list
unfolding are_listable is_listable
near s [] l h = tt
near s (d ∷ list) l h =
    let low = ltb-true d.cylinder s.cylinders (search (and_l, and_r)) in
    (omega arith, near s list l (and_r (is_listable s d) (are_listable s list) h))

pub near_dropped : (n : ℕ) (list : List Defect) → AllNear list → AllNear (drop n list)
near_dropped zero list h = h
near_dropped (suc n) [] h = tt
near_dropped (suc n) (d ∷ list) h = near_dropped n list h.1

pub near_taken : (n : ℕ) (list : List Defect) → AllNear list → AllNear (take n list)
near_taken zero list h = tt
near_taken (suc n) [] h = tt
near_taken (suc n) (d ∷ list) h = (h.0, near_taken n list h.1)

-- ---- the order

pub behind_parts : (least : ℕ) (before rest : List Defect) → behind_all least (before ++ rest) ≡ behind_all (behind_all least before) rest
behind_parts least [] rest = refl
behind_parts least (d ∷ before) rest = behind_parts (behind least d) before rest
