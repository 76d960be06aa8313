-- `defects::sets::put_sets` meets its contract: after so many sets, three times as many data fields are in their places.
-- Assumes nothing.
use Prim.Native.Nat.{◌+◌, ◌*◌}
use mathlib.Core.Path.{◌≡◌, refl, ◌∙◌}
use native.Mathlib.Omega.{arith}
use Rattle.defects.specs.EncodeSteps.{put_fields}
use Rattle.defects.specs.Field.{slots}
use Rattle.defects.specs.Place.{field_octets}
use Rattle.defects.proofs.Stored.{put_more}
use Rattle.defects.proofs.sets.put_sets.Goals as goal

pub loop-set-init : goal.loop-set-init
unfolding put_fields
loop-set-init g c =
    let none : 0 * slots (field_octets c.args.setup) ≡ 0 = omega arith in
    record { above = rw none; put = refl }

pub loop-set-preserved : goal.loop-set-preserved
loop-set-preserved g c =
    let more : 3 * (c.loop-set.set + 1) ≡ 3 * c.loop-set.set + 3 = omega arith in
    record {
      above = c.put_set-least.ensures.next;
      put = c.put_set-least.ensures.put ∙ rw (c.loop-set.invariant.put, more) (put_more _ _ _ _ _ 0 (3 * c.loop-set.set) 3 (omega arith));
    }
