-- `on_end` meets its contract.
-- Assumes nothing.
use Rattle.std.proofs.Common.{sym, ◌∙◌}
use Rattle.parts.specs.declared.kind.Kind.TheVariants.{Use}
use Rattle.parts.specs.declared.kind.Work.TheVariants.{End}
use Rattle.events.specs.State.{drive_in}
use Rattle.events.proofs.Done.{did_accepted, did_refused}
use Rattle.events.proofs.Exchanges.{did_ended, did_cut}
use Rattle.events.proofs.kinds.on_end.Goals as goal

pub returns-in-Err : goal.returns-in-Err
returns-in-Err c =
    did_refused (Use End) _ _ _ _ c.requires (c.in-Err.ensures ∙ rw (c.none_at_all-formed.ensures, c.is_selected-selected.ensures, c.is_one_open-closed.ensures))

pub returns-then-is_data : goal.returns-then-is_data
unfolding drive_in
returns-then-is_data c =
    did_accepted (Use End) _ _ _ (c.in_default.ensures ∙ rw (c.none_at_all-formed.ensures, c.is_selected-selected.ensures, c.is_one_open-closed.ensures))
    (did_ended _ (sym c.is_data.ensures ∙ c.if-is_data.true) c.end_transfer.ensures)

pub returns : goal.returns
unfolding drive_in
returns c =
    did_accepted (Use End) _ _ _ (c.in_default.ensures ∙ rw (c.none_at_all-formed.ensures, c.is_selected-selected.ensures, c.is_one_open-closed.ensures))
    (did_cut _ (sym c.is_data.ensures ∙ c.if-is_data.false) c.close.ensures)
