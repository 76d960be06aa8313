-- "stored in order of increasing physical addresses": what it is to be out of sequence. `proofs/Sequence` proves it.
use Rattle.std.specs.Prelude.{◌≤◌, ◌≡◌, true, List, ◌∷◌, ◌↔◌}
use Rattle.defects.specs.Defect.{address, behind_all, is_out_of_sequence}
use Rattle.defects.specs.declared.defect.Defect.{Defect}

-- One of the defects has the same address as this one, or a higher one.
pub data HasAbove (d : Defect) : List Defect → Type 0 where
  here : {e : Defect} {defects : List Defect} → address d ≤ address e → HasAbove d (e ∷ defects)
  later : {e : Defect} {defects : List Defect} → HasAbove d defects → HasAbove d (e ∷ defects)

pub record Sequence : Type 0 where
  -- The one number that is kept tells it: the least address that is higher than all before.
  pub out_of_sequence_lem : (before : List Defect) (d : Defect) → is_out_of_sequence (behind_all 0 before) d ≡ true ↔ HasAbove d before
