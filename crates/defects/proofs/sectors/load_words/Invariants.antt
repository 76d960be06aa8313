-- `defects::sectors::load_words` meets its contract: after i turns, the words of i more octets are loaded.
-- Assumes nothing.
use Prim.Native.Nat.{◌*◌}
use mathlib.Core.Path.{◌≡◌}
use lib.ListN.{take, drop}
use Rattle.defects.specs.Sectors.{word_octets}
use Rattle.defects.proofs.sectors.load_words.Given as goal

abbrev pub invariant-loop-i : goal.invariant-loop-i
invariant-loop-i l = take (2 * l.i) l.field ≡ word_octets (take l.i (drop l.start l.sectors))
