-- `defects::walking::judge` meets its contract: after so many turns the walk stands where the definition has it, and no offence is behind it.
-- Assumes nothing.
use Rattle.defects.specs.Source.{string_in, is_alone}
use Rattle.defects.proofs.Reaching.{Reached}
use Rattle.defects.proofs.walking.judge.Given as goal

abbrev pub invariant-loop-k : goal.invariant-loop-k
invariant-loop-k l = Reached (is_alone l.source) l.setup (string_in l.setup l.source) l.k l.progress.walk l.progress.least
