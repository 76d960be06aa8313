-- `defects::entries::judge_entries` meets its contract: the invariant is that the entries judged so far show nothing, so what is left to judge is all that counts.
-- Assumes nothing.
use Prim.Native.Nat.{◌+◌, ◌*◌, ◌<◌}
use mathlib.Core.Path.{◌≡◌, ap, sym, ◌∙◌}
use lib.ListN.{length}
use native.Mathlib.Omega.{arith}
use Rattle.defects.specs.Field.{slots}
use Rattle.defects.specs.Defect.{defect_at, is_blank}
use Rattle.defects.proofs.Offences.{passed_on}
use Rattle.defects.proofs.EntriesLeft.{left_start, left_none, left_stop, left_next, blank_left, none_left}
use Rattle.defects.proofs.entries.judge_entries.Goals as goal
use Rattle.defects.proofs.entries.judge_entries.Goals.{After-is_blank, In-loop-i}

pub loop-i-init : goal.loop-i-init
loop-i-init c = left_start _ _ _ _ _

in_slot : (c : In-loop-i) → c.loop-i.i < slots (length c.args.field.octets.now)
in_slot c = omega (arith, c.slots_of-slots.ensures)

blank_told : (c : After-is_blank) → is_blank (defect_at (14 + 12 * c.loop-i.i) c.args.field.octets.now) ≡ c.is_blank.result
blank_told c = sym (c.is_blank.ensures ∙ ap is_blank c.defect_at-d.ensures)

pub returns-then-is_blank : goal.returns-then-is_blank
returns-then-is_blank c =
    left_none _ _ _ _ _ _ _ c.loop-i.invariant (blank_left _ _ _ (in_slot (goal.at.returns-then-is_blank c).In-loop-i) ((blank_told (goal.at.returns-then-is_blank c).After-is_blank) ∙ c.if-is_blank.true))

pub returns-in_err-above : goal.returns-in_err-above
returns-in_err-above c =
    let at = goal.at.returns-in_err-above c in
    rw (passed_on c.from_residual.ensures)
    (left_stop _ _ _ _ _ _ _ _ c.loop-i.invariant (in_slot at.In-loop-i) (blank_told at.After-is_blank ∙ c.if-is_blank.false) (c.in_err-above.ensures.offence ∙ rw c.defect_at-d.ensures))

pub loop-i-preserved : goal.loop-i-preserved
loop-i-preserved c =
    let at = goal.at.loop-i-preserved c in
    left_next _ _ _ _ _ _ _ _ c.loop-i.invariant (in_slot at.In-loop-i) (blank_told at.After-is_blank ∙ c.if-is_blank.false)
    (c.in_ok-above.ensures.offence ∙ rw c.defect_at-d.ensures) (c.in_ok-above.ensures.next ∙ rw c.defect_at-d.ensures)

pub returns : goal.returns
returns c =
    let all : c.loop-i.i ≡ c.slots_of-slots.result = omega arith in
    rw (← all) (left_none _ _ _ _ _ _ _ c.loop-i.invariant (none_left _ _ _ (omega (arith, c.slots_of-slots.ensures))))
