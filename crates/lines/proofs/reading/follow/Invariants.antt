-- `follow` meets its contract.
-- Assumes nothing.
use Rattle.lines.proofs.ReadSoFar.{ReadTo}
use Rattle.lines.proofs.reading.follow.Given as goal

abbrev pub invariant-loop-i : goal.invariant-loop-i
invariant-loop-i l = ReadTo l.initial.last l.trace l.initial.answers l.i l.last l.answers
