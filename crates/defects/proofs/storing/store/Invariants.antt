-- `defects::storing::store` meets its contract: after i turns, i words are pasted.
-- Assumes nothing.
use mathlib.Core.Path.{◌≡◌}
use lib.Seq.{paste}
use Rattle.defects.specs.Sectors.{octet_words}
use Rattle.defects.proofs.storing.store.Given as goal

abbrev pub invariant-loop-i : goal.invariant-loop-i
invariant-loop-i l = l.words ≡ paste l.initial.words l.at (octet_words l.octets) l.i
