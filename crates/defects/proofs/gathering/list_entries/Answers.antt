-- `defects::gathering::list_entries` meets its contract: the defects listed so far, before those of the entries left, are all of them.
-- Assumes nothing.
use Rattle.laws.proofs.Runs.{rest_whole}
use lib.ListN.{length-drop}
use Rattle.defects.specs.Field.{slots}
use Rattle.defects.specs.Defect.{defect_at, defect_octets, is_blank}
use Rattle.defects.proofs.EntriesLeft.{blank_left, none_left}
use Rattle.laws.proofs.Windows.{part_back}
use Prim.Native.Nat.{◌+◌, ◌*◌, ◌≤◌, ◌<◌}
use mathlib.Core.Path.{◌≡◌, sym, ap, ◌∙◌}
use native.Mathlib.Omega.{arith}
use lib.ListN.{length}
use Rattle.defects.proofs.Listing.{listing_start, listing_none, listing_next}
use Rattle.defects.proofs.gathering.list_entries.Goals as goal
use Rattle.defects.proofs.gathering.list_entries.Goals.{After-is_blank, In-loop-i}

pub loop-i-init : goal.loop-i-init
loop-i-init c = listing_start _ _ _

in_slot : (c : In-loop-i) → c.loop-i.i < slots (length c.args.field.now)
in_slot c = omega (arith, c.slots_of-slots.ensures)

blank_told : (c : After-is_blank) → is_blank (defect_at (14 + 12 * c.loop-i.i) c.args.field.now) ≡ c.is_blank.result
blank_told c = sym (c.is_blank.ensures ∙ ap is_blank c.defect_at-d.ensures)

pub returns-then-is_blank : goal.returns-then-is_blank
returns-then-is_blank c =
    listing_none _ _ _ _ _ c.loop-i.invariant (blank_left _ _ _ (in_slot (goal.at.returns-then-is_blank c).In-loop-i) ((blank_told (goal.at.returns-then-is_blank c).After-is_blank) ∙ c.if-is_blank.true))

pub write_defect-requires : goal.write_defect-requires
write_defect-requires c =
    let has_room : 12 * (c.args.count + c.loop-i.i) + 12 ≤ length c.loop-i.defects = let next = listing_next _ _ _ _ _ c.loop-i.invariant (in_slot (goal.at.write_defect-requires c).In-loop-i) ((blank_told (goal.at.write_defect-requires c).After-is_blank) ∙ c.if-is_blank.false) c.requires.1 in
    omega (arith, next.many, c.loop-i.invariant.kept, c.requires.1) in
    let at = 12 * (c.args.count + c.loop-i.i) in
    rw (rest_whole c.loop-i.defects at) (simp length-drop (omega (arith, has_room)))

pub loop-i-preserved : goal.loop-i-preserved
loop-i-preserved c =
    let at = 12 * (c.args.count + c.loop-i.i) in
    let written = part_back c.loop-i.defects at c.write_defect.new.octets (defect_octets (defect_at (14 + 12 * c.loop-i.i) c.args.field.now)) (c.write_defect.ensures ∙ rw c.defect_at-d.ensures) in
    rw written (listing_next _ _ _ _ _ c.loop-i.invariant (in_slot (goal.at.loop-i-preserved c).In-loop-i) ((blank_told (goal.at.loop-i-preserved c).After-is_blank) ∙ c.if-is_blank.false) c.requires.1)

pub returns : goal.returns
returns c =
    let all : c.loop-i.i ≡ c.slots_of-slots.result = omega arith in
    rw (← all) (listing_none _ _ _ _ _ c.loop-i.invariant (none_left _ _ _ (omega (arith, c.slots_of-slots.ensures))))
