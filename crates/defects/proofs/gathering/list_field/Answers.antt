-- `defects::gathering::list_field` meets its contract.
-- Assumes nothing.
use Prim.Native.Nat.{◌*◌}
use mathlib.Core.Path.{sym}
use native.Mathlib.Nat.{add-zero}
use borrow.Author.Tests.{eq-eqb, ne_eqb}
use Rattle.laws.specs.Pick.{pick}
use Rattle.laws.proofs.Windows.{written_none}
use Rattle.defects.proofs.gathering.list_field.Goals as goal

pub returns-then-field : goal.returns-then-field
unfolding pick
returns-then-field c =
    let ignored = eq-eqb _ _ c.if-field.true in
    record { count' = rw (ignored, add-zero); copy' = rw ignored; slice = rw ignored (sym (written_none c.args.defects.now (12 * c.args.gathered.count))) }

pub returns-then-copy-ne0 : goal.returns-then-copy-ne0
unfolding pick
returns-then-copy-ne0 c =
    let judged = ne_eqb _ _ c.if-field.false in
    let copy = ne_eqb _ _ c.if-copy-ne0.true in
    record { count' = rw (judged, copy, add-zero); copy' = rw (judged, copy) c.next_copy.ensures; slice = rw (judged, copy) (sym (written_none c.args.defects.now (12 * c.args.gathered.count))) }

pub list_entries-requires : goal.list_entries-requires
unfolding pick
list_entries-requires c =
    (c.requires.0, rw (ne_eqb _ _ c.if-field.false, eq-eqb _ _ c.if-copy-ne0.false) at c.requires.1)

pub returns : goal.returns
unfolding pick
returns c =
    let judged = ne_eqb _ _ c.if-field.false in
    let copy = eq-eqb _ _ c.if-copy-ne0.false in
    record { count' = rw (judged, copy) c.list_entries.ensures.0; copy' = rw (judged, copy); slice = rw (judged, copy) c.list_entries.ensures.1 }
