-- `put_gaps` meets its contract.
-- Assumes nothing.
use Rattle.events.proofs.Parts.{Gapping}
use Rattle.events.proofs.part.put_gaps.Given as goal

abbrev pub invariant-loop-i : goal.invariant-loop-i
invariant-loop-i l = Gapping l.records l.initial.gaps l.gaps l.from l.count l.earlier l.i
