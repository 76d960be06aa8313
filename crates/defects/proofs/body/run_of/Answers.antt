-- `defects::body::run_of` meets its contract: the first defect of the set is one of all, or follows them.
-- Assumes nothing.
use Prim.Native.Nat.{◌*◌, ◌/◌, ◌≤◌}
use mathlib.Core.Path.{◌≡◌, ap, ◌∙◌}
use native.Mathlib.Omega.{arith}
use Rattle.defects.specs.Field.{slots}
use Rattle.defects.specs.Place.{field_octets}
use Rattle.defects.proofs.body.run_of.Goals as goal
use Rattle.defects.proofs.body.run_of.Goals.{After-slots_of-each}

each : (c : After-slots_of-each) → c.slots_of-each.result ≡ slots (field_octets c.args.setup)
each c = c.slots_of-each.ensures ∙ ap slots c.field_octets.ensures

first : (c : After-slots_of-each) → c.args.set * c.slots_of-each.result ≤ c.args.size / 12
first c = rw (each (c)) c.requires.1

pub overflow_mul-first : goal.overflow_mul-first
overflow_mul-first c =
    omega (arith, first (goal.at.overflow_mul-first c).After-slots_of-each)

pub overflow_sub-left : goal.overflow_sub-left
overflow_sub-left c =
    (first (goal.at.overflow_sub-left c).After-slots_of-each)

pub overflow_mul-result : goal.overflow_mul-result
overflow_mul-result c =
    omega (arith, first (goal.at.overflow_mul-result c).After-slots_of-each)

pub returns : goal.returns
returns c =
    let e = each (goal.at.returns c).After-slots_of-each in
    record { at = rw e; count = c.min.ensures ∙ rw e }
