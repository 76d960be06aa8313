-- `defects::storing::put_padded` meets its contract: after i turns, i of the octets and the zeros behind them are pasted.
-- Assumes nothing.
use Prim.Native.Nat.{ℕ, ◌-◌}
use mathlib.Core.Path.{◌≡◌}
use mathlib.Core.List.{List, ◌++◌}
use lib.ListN.{length, replicate}
use lib.Seq.{paste}
use Rattle.defects.proofs.storing.put_padded.Given as goal

-- the octets, and zeros behind them up to `room`
abbrev pub padded : List ℕ → ℕ → List ℕ
padded octets room = octets ++ replicate (room - length octets) 0

abbrev pub invariant-loop-i : goal.invariant-loop-i
invariant-loop-i l = l.out ≡ paste l.initial.out l.at (padded l.octets (length l.initial.out - l.at)) l.i
