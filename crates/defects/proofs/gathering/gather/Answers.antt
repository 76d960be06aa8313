-- `defects::gathering::gather` meets its contract: the defects listed so far, before those of the data fields left, are all of them.
-- Assumes nothing.
use Prim.Native.Nat.{◌+◌, ◌*◌, ◌≤◌}
use mathlib.Core.Path.{◌≡◌}
use native.Mathlib.Nat.{mul-le-mul_right, add-mul, one-mul}
use native.Mathlib.Omega.{arith}
use Rattle.defects.specs.Place.{field_octets}
use Rattle.defects.specs.Source.{Loadable}
use Rattle.defects.proofs.Fields.{some_field}
use Rattle.defects.proofs.Gathers.{gathering_start, gathering_next, own_room}
use Rattle.defects.proofs.Loadables.{length_loaded}
use Rattle.defects.proofs.gathering.gather.Goals as goal
use Rattle.defects.proofs.gathering.gather.Goals.{In-loop-k}

pub loop-k-init : goal.loop-k-init
loop-k-init c = gathering_start _ _ _

loadable : (c : In-loop-k) → Loadable c.args.setup c.args.source c.loop-k.k
loadable c =
    let pre = c.requires in
    let each = field_octets c.args.setup in
    let k = c.loop-k.k in
    let more : (k + 1) * each ≤ c.args.fields * each = mul-le-mul_right each (omega arith) in
    record { readable = pre.readable; inside = omega (arith, pre.within); whole = omega (arith, more, pre.whole, add-mul k 1 each, one-mul each) }

pub field-field-requires : goal.field-field-requires
field-field-requires c = loadable (goal.at.field-field-requires c).In-loop-k

pub list_field-gathered-requires : goal.list_field-gathered-requires
list_field-gathered-requires c =
    let l = loadable (goal.at.list_field-gathered-requires c).In-loop-k in
    let some = some_field c.args.setup c.loop-k.k l.inside in
    rw c.field-field.ensures
    (rw (length_loaded l) (omega arith), own_room _ _ _ _ _ _ _ _ c.loop-k.invariant (c.requires.going c.loop-k.k c.loop-k-test.true) c.loop-k-test.true c.requires.held)

pub loop-k-preserved : goal.loop-k-preserved
loop-k-preserved c =
    gathering_next _ _ _ _ _ _ _ _ c.loop-k.invariant (c.requires.going c.loop-k.k c.loop-k-test.true) c.loop-k-test.true c.requires.held _ _ (rw (← c.field-field.ensures) c.list_field-gathered.ensures)

pub returns : goal.returns
returns c =
    let all : c.loop-k.k ≡ c.args.fields = omega arith in
    rw (← all) (c.loop-k.invariant.counted, c.loop-k.invariant.listed)
