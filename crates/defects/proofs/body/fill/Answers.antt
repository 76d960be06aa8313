-- `defects::body::fill` meets its contract: its callees make the parts of the data field.
-- Assumes nothing.
use Prim.Native.Nat.{ℕ, ◌+◌, ◌-◌, ◌*◌}
use mathlib.Core.Path.{◌≡◌, sym, ap, ◌∙◌}
use mathlib.Core.List.{List, ◌++◌}
use native.Mathlib.Omega.{arith}
use lib.ListN.{length, drop, length-take, length-append, length-drop}
use lib.Seq.{length-take-le}
use Rattle.laws.specs.Lists.{written_over}
use Rattle.defects.specs.EncodeSteps.{octets_in_front}
use Rattle.defects.specs.declared.front.Front.{Front}
use Rattle.defects.proofs.Plans.{plan, RunKnown, run_known}
use Rattle.defects.proofs.Fills.{filled}
use borrow.Author.Rules.{rules}
use Rattle.defects.proofs.body.fill.Goals as goal
use Rattle.defects.proofs.body.fill.Goals.{After-run_of-run}

pub run_of-run-requires : goal.run_of-run-requires
run_of-run-requires c =
    let p = plan c.requires.0.planned in
    (omega arith, p.first _ c.requires.0.within)

known : (c : After-run_of-run) → let a = c.args in RunKnown a.setup a.job a.defects.now a.set c.run_of-run.result
known c = let due = c.requires.0 in run_known (plan due.planned) due.within c.run_of-run.ensures

pub order_of-order-requires : goal.order_of-order-requires
order_of-order-requires c =
    let k = known (goal.at.order_of-order-requires c).After-run_of-run in
    (k.within, k.near)

pub overflow_mul-front : goal.overflow_mul-front
overflow_mul-front c =
    let l = (plan c.requires.0.planned).limits in
    omega arith

pub overflow_sub-front : goal.overflow_sub-front
overflow_sub-front c =
    let p = plan c.requires.0.planned in
    omega arith

pub slice_bounds-copy_from_slice-end : goal.slice_bounds-copy_from_slice-end
slice_bounds-copy_from_slice-end c = let p = plan c.requires.0.planned in omega (arith, c.requires.1, p.field1)

pub slice_bounds-copy_from_slice-end-2 : goal.slice_bounds-copy_from_slice-end-2
slice_bounds-copy_from_slice-end-2 c = let p = plan c.requires.0.planned in sym (length-take-le _ _ (omega (arith, c.requires.1, p.field1)))

pub copy_from_slice-requires : goal.copy_from_slice-requires
unfolding octets_in_front
copy_from_slice-requires c =
    let p = plan c.requires.0.planned in
    length-take-le 14 c.args.field.now (omega (arith, c.requires.1, p.field1)) ∙ sym (ap length c.front_octets.ensures)

pub slice_bounds-put_padded-end : goal.slice_bounds-put_padded-end
slice_bounds-put_padded-end c =
    (known (goal.at.slice_bounds-put_padded-end c).After-run_of-run).within

-- the octets in front, written
in_front : (field octets new : List ℕ) (front : Front) → new ≡ octets → octets ≡ octets_in_front front → new ++ drop 14 field ≡ written_over field (octets_in_front front)
unfolding octets_in_front
in_front field octets new front e f = rw (e, f)

pub put_padded-requires : goal.put_padded-requires
unfolding octets_in_front
put_padded-requires c =
    let r = c.run_of-run.result in
    let p = plan c.requires.0.planned in
    let front = c.copy_from_slice.new.self in
    let long : length front ≡ 14 = ap length (c.copy_from_slice.ensures.after ∙ c.front_octets.ensures) in
    omega (
      arith,
      c.requires.1,
      p.field1,
      (known (goal.at.put_padded-requires c).After-run_of-run).few,
      length-take (r.at + 12 * r.count - r.at) (drop r.at c.args.defects.now),
      length-append front (drop 14 c.args.field.now),
      length-drop 14 c.args.field.now,
    )

pub returns : goal.returns
returns c =
    let r = c.run_of-run.result in
    let count : r.at + 12 * r.count - r.at ≡ 12 * r.count = omega arith in
    filled c.requires.0 r _ _ c.args.field.now _ c.requires.1 (known (goal.at.returns c).After-run_of-run) (search rules) c.order_of-order.ensures c.flags_for.ensures
    (rw (← count, ← in_front c.args.field.now _ _ _ c.copy_from_slice.ensures.after c.front_octets.ensures) c.put_padded.ensures)
