-- `main` is safe and ends. The arrays are too long for their lengths to be counted.
-- Assumes nothing.
use Prim.Native.Nat.{ℕ}
use mathlib.Core.Path.{sym}
use lib.ListN.{length-replicate}
use Rattle.list_defects.proofs.main.Goals as goal

pub slice_bounds-list_input-end : goal.slice_bounds-list_input-end
slice_bounds-list_input-end c = sym (length-replicate {A = ℕ} 1048577 0)
