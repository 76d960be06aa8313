-- `capture::encoding::put` meets its contract: after i turns, i octets are pasted.
-- Assumes nothing.
use Prim.Native.Nat.{◌≤◌}
use mathlib.Core.Path.{◌≡◌}
use lib.ListN.{length}
use lib.Seq.{paste}
use Rattle.capture.proofs.encoding.put.Given as goal

abbrev pub invariant-loop-i : goal.invariant-loop-i
invariant-loop-i l = (l.i ≤ length l.octets) × (length l.out ≡ length l.initial.out) × (l.out ≡ paste l.initial.out l.at l.octets l.i)
