-- `specs/Sequence` proved: the least address behind a list is above an address exactly where one of the list is not below it.
-- Assumes nothing.
use Prim.Native.Nat.{ℕ, ◌<◌}
use mathlib.Core.Path.{◌≡◌, refl}
use mathlib.Core.Bool.{Bool, true, false}
use mathlib.Core.List.{List, [], ◌∷◌}
use mathlib.Core.Logic.{◌⊎◌, inl, inr, ⊎_elim}
use native.Mathlib.Omega.{arith}
use borrow.Author.Tests.{lt-ltb, ltb-true, ltb-false}
use lib.Dec.{ltb}
use Rattle.defects.specs.Defect.{address, behind, behind_all}
use Rattle.defects.specs.Sequence.{HasAbove, here, later, Sequence}
use Rattle.defects.specs.declared.defect.Defect.{Defect}

module _ (d : Defect) where
  above_of : (least : ℕ) (defects : List Defect) → address d < behind_all least defects → (address d < least) ⊎ HasAbove d defects
  above_of least [] h = inl h
  above_of least (e ∷ defects) h = by_test (ltb (address d) least) refl (above_of (behind least e) defects h)
    where
      by_test : (low : Bool) → ltb (address d) least ≡ low → (address d < behind least e) ⊎ HasAbove d defects → (address d < least) ⊎ HasAbove d (e ∷ defects)
      by_test true p rest = inl (ltb-true _ _ p)
      by_test false p rest = ⊎_elim (λ h. inr (here (omega (arith, ltb-false (address d) least p)))) (λ above. inr (later above)) rest

  stays_below : (least : ℕ) (defects : List Defect) → address d < least → address d < behind_all least defects
  stays_below least [] h = h
  stays_below least (e ∷ defects) h = stays_below (behind least e) defects (omega arith)

  of_above : (least : ℕ) (defects : List Defect) → HasAbove d defects → address d < behind_all least defects
  of_above least [] x = elim x [ ]
  of_above least (e ∷ defects) (here h) = stays_below (behind least e) defects (omega arith)
  of_above least (e ∷ defects) (later above) = of_above (behind least e) defects above

  none_below : (before : List Defect) → (address d < 0) ⊎ HasAbove d before → HasAbove d before
  none_below before (inl h) = absurd (omega arith)
  none_below before (inr above) = above

pub sequence : Sequence
sequence =
    record { out_of_sequence_lem = λ before d. (λ e. none_below d before (above_of d 0 before (ltb-true _ _ e)), λ above. lt-ltb _ _ (of_above d 0 before above)) }
