-- `defects::encodable::are_listable` meets its contract: those left are listable exactly if all are.
-- Assumes nothing.
use Prim.Native.Nat.{◌-◌, ◌*◌, ◌/◌}
use mathlib.Core.Path.{◌≡◌}
use lib.ListN.{length}
use Rattle.defects.specs.Encoding.{list_from, defects_listed, are_listable}
use Rattle.defects.proofs.encodable.are_listable.Given as goal

abbrev pub invariant-loop-i : goal.invariant-loop-i
invariant-loop-i l = are_listable l.setup (defects_listed l.defects) ≡ are_listable l.setup (list_from l.defects (12 * l.i) (length l.defects / 12 - l.i))
