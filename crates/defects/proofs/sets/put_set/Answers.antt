-- `defects::sets::put_set` meets its contract: after so many copies, so many data fields more are in their places.
-- Assumes nothing.
use Prim.Native.Nat.{ℕ, ◌*◌, ◌≤◌}
use mathlib.Core.Path.{◌≡◌, refl, sym, ap, ◌∙◌}
use mathlib.Core.List.{List, [], ◌∷◌, ◌++◌}
use native.Mathlib.Numerals.{add-one}
use native.Mathlib.Omega.{arith}
use lib.ListN.{length, length-append}
use lib.Seq.{length-take-le}
use Rattle.parts.specs.declared.setup.Setup.{Setup}
use Rattle.defects.specs.EncodeSteps.{value_in, put_fields}
use Rattle.defects.specs.Encoding.{Value, body_octets, data_field}
use Rattle.defects.specs.Place.{field_octets}
use Rattle.defects.proofs.Bodies.{body_of, length_body, finished_as, field_of}
use Rattle.defects.proofs.Plans.{plan, copy_there}
use Rattle.defects.proofs.Stored.{put_next}
use Rattle.defects.proofs.sets.put_set.Goals as goal

length_built : (s : Setup) (v : Value) (number : ℕ) (field : List ℕ) → 8 ≤ s.field1 → field ≡ body_octets s v number 0 ++ (0 ∷ 0 ∷ []) → length field ≡ field_octets s
length_built s v number field wide e = ap length e ∙ omega (arith, length-append (body_octets s v number 0) (0 ∷ 0 ∷ []), length_body s v number 0 wide)

pub slice_bounds-room-end : goal.slice_bounds-room-end
slice_bounds-room-end g c = let l = (plan c.requires.0.planned).limits in omega (arith, c.field_octets.ensures, l.field1)

pub slice_bounds-field-end : goal.slice_bounds-field-end
slice_bounds-field-end g c = let l = (plan c.requires.0.planned).limits in sym (length-take-le _ _ (omega (arith, c.field_octets.ensures, l.field1)))

pub fill-next-requires : goal.fill-next-requires
fill-next-requires g c =
    let l = (plan c.requires.0.planned).limits in
    (c.requires.0, length-take-le _ _ (omega (arith, c.field_octets.ensures, l.field1)) ∙ c.field_octets.ensures)

pub loop-copy-init : goal.loop-copy-init
unfolding put_fields
loop-copy-init g c = record { body = body_of _ _ _ 0 (0 ∷ 0 ∷ []) _ refl c.fill-next.ensures.body; put = refl }

pub finish-requires : goal.finish-requires
finish-requires g c =
    let p = plan c.requires.0.planned in
    omega (arith, length_built _ _ _ _ p.field1 c.fill-next.ensures.body, c.loop-copy.auto.field, p.field1)

pub put_field-requires : goal.put_field-requires
put_field-requires g c =
    let due = c.requires.0 in
    let p = plan due.planned in (
      c.finish.auto.field ∙ c.loop-copy.auto.field ∙ length_built _ _ _ _ p.field1 c.fill-next.ensures.body,
      rw c.loop-copy.auto.out (c.requires.1 _ (omega (arith, due.within))),
    )

pub loop-copy-preserved : goal.loop-copy-preserved
loop-copy-preserved g c =
    let a = c.args in
    let copy = c.loop-copy.copy in
    let due = c.requires.0 in
    let made : c.finish.new.field ≡ data_field a.setup (value_in a.job a.defects.now) a.set copy = c.finish.ensures ∙ finished_as _ _ _ _ _ c.loop-copy.invariant.body in
    let there = made ∙ sym (copy_there (plan due.planned) a.set copy refl due.within c.loop-copy-test.true) in
    record {
      body = field_of _ _ _ copy _ made;
      put = c.put_field.ensures ∙ rw (c.loop-copy.invariant.put, there, add-one copy) (sym (put_next _ _ _ _ _ (3 * a.set) copy));
    }
