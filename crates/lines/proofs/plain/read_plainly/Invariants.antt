-- `read_plainly` meets its contract: stretch behind stretch, the whole trace.
-- Assumes nothing.
use Rattle.std.proofs.Common.{◌-◌, length}
use Rattle.lines.proofs.ReadSoFar.{ReadTo}
use Rattle.lines.proofs.plain.read_plainly.Given as goal

abbrev pub invariant-loop-at : goal.invariant-loop-at
invariant-loop-at l = ReadTo l.initial.last l.trace l.initial.answers l.at l.last l.answers

abbrev pub decreases-loop-at : goal.decreases-loop-at
decreases-loop-at l = length l.trace - l.at
