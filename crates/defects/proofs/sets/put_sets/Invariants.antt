-- `defects::sets::put_sets` meets its contract: after so many sets, three times as many data fields are in their places.
-- Assumes nothing.
use Prim.Native.Nat.{◌*◌}
use mathlib.Core.Path.{◌≡◌}
use Rattle.defects.specs.Defect.{behind_all}
use Rattle.defects.specs.Encoding.{map_octets, defects_before_set}
use Rattle.defects.specs.EncodeSteps.{value_in, put_fields}
use Rattle.defects.proofs.sets.put_sets.Given as goal

abbrev pub invariant-loop-set : goal.invariant-loop-set
invariant-loop-set g l =
    let u = g.U.MapUnit in
    record {
      above : l.least ≡ behind_all 0 (defects_before_set l.setup (value_in l.job l.defects) l.set);
      put : l.out ≡ put_fields u.start u.units l.setup (map_octets l.setup (value_in l.job l.defects)) l.initial.out 0 (3 * l.set);
    }
