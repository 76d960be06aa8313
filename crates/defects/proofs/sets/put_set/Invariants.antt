-- `defects::sets::put_set` meets its contract: after so many copies, so many data fields more are in their places.
-- Assumes nothing.
use Prim.Native.Nat.{◌*◌}
use mathlib.Core.Path.{◌≡◌}
use Rattle.defects.specs.Encoding.{map_octets}
use Rattle.defects.specs.EncodeSteps.{value_in, put_fields}
use Rattle.defects.proofs.Bodies.{IsOf}
use Rattle.defects.proofs.sets.put_set.Given as goal

abbrev pub invariant-loop-copy : goal.invariant-loop-copy
invariant-loop-copy g l =
    let u = g.U.MapUnit in
    record {
      body : IsOf l.setup (value_in l.fn.job l.fn.defects) l.fn.set l.field;
      put : l.out ≡ put_fields u.start u.units l.setup (map_octets l.setup (value_in l.fn.job l.fn.defects)) l.initial.out (3 * l.fn.set) l.copy;
    }
