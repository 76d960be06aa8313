-- `defects::encodable::are_listable` meets its contract: those left are listable exactly if all are.
-- Assumes nothing.
use Prim.Native.Nat.{◌+◌, ◌-◌, ◌*◌, ◌/◌}
use lib.ListN.{length}
use mathlib.Core.Path.{◌≡◌, sym, ◌∙◌}
use mathlib.Core.Bool.{◌&&◌}
use native.Mathlib.Omega.{arith}
use Rattle.defects.specs.Encoding.{list_from, defects_listed, are_listable}
use Rattle.defects.proofs.Listed.{listable_first}
use Rattle.defects.proofs.encodable.are_listable.Goals as goal
use Rattle.defects.proofs.encodable.are_listable.Goals.{After-is_listable}

pub loop-i-init : goal.loop-i-init
loop-i-init c =
    let all : length c.args.defects.now / 12 - 0 ≡ length c.args.defects.now / 12 = omega arith in
    rw all

next : (c : After-is_listable) → let a = c.args in
    let i = c.loop-i.i in
    are_listable a.setup (defects_listed a.defects.now) ≡ c.is_listable.result && are_listable a.setup (list_from a.defects.now (12 * (i + 1)) (length a.defects.now / 12 - (i + 1)))
next c =
    let a = c.args in
    let i = c.loop-i.i in
    let count = length a.defects.now / 12 in
    let on : 12 * i + 12 ≡ 12 * (i + 1) = omega arith in
    let less : count - i - 1 ≡ count - (i + 1) = omega arith in
    c.loop-i.invariant ∙ rw (← on, ← less) (listable_first a.setup a.defects.now (12 * i) (count - i) (omega arith) ∙ rw (c.is_listable.ensures, c.defect_at.ensures))

pub returns-then-not-is_listable : goal.returns-then-not-is_listable
returns-then-not-is_listable c = sym (next (goal.at.returns-then-not-is_listable c).After-is_listable ∙ rw c.if-not-is_listable.true)

pub loop-i-preserved : goal.loop-i-preserved
loop-i-preserved c = next (goal.at.loop-i-preserved c).After-is_listable ∙ rw c.if-not-is_listable.false

pub returns : goal.returns
unfolding are_listable list_from
returns c =
    let none : length c.args.defects.now / 12 - c.loop-i.i ≡ 0 = omega arith in
    sym (c.loop-i.invariant ∙ rw none)
