-- `defects::gathering::gather` meets its contract: the defects listed so far, before those of the data fields left, are all of them.
-- Assumes nothing.
use Rattle.defects.specs.Source.{string_in}
use Rattle.defects.proofs.Gathers.{Gathering}
use Rattle.defects.proofs.gathering.gather.Given as goal

abbrev pub invariant-loop-k : goal.invariant-loop-k
invariant-loop-k l = Gathering l.setup (string_in l.setup l.source) l.initial.defects l.defects l.gathered.count l.gathered.copy l.k
