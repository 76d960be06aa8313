-- `defects::entries::judge_entries` meets its contract: the invariant is that the entries judged so far show nothing, so what is left to judge is all that counts.
-- Assumes nothing.
use Rattle.defects.proofs.EntriesLeft.{Left}
use Rattle.defects.proofs.entries.judge_entries.Given as goal

abbrev pub invariant-loop-i : goal.invariant-loop-i
invariant-loop-i l = Left l.setup l.flagged l.least l.start l.octets l.i l.above
