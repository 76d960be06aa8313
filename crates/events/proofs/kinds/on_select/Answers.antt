-- `on_select` meets its contract.
-- Assumes nothing.
use Rattle.events.proofs.Done.{did_refused, did_accepted}
use Rattle.parts.specs.declared.kind.Kind.TheVariants.{Select}
use Rattle.std.proofs.Common.{refl, ◌∙◌}
use Rattle.events.proofs.kinds.on_select.Goals as goal

pub returns-in-Err : goal.returns-in-Err
returns-in-Err c =
    did_refused Select _ _ _ _ c.requires (c.in-Err.ensures ∙ rw (c.none_after_1.ensures, c.is_busy-busy.ensures, c.changes_mode-changes_mode.ensures, c.is_misaddressed-misaddressed.ensures, c.drive_in-d.ensures))

pub put_moved-requires : goal.put_moved-requires
put_moved-requires c =
    c.requires.long

pub returns : goal.returns
returns c =
    did_accepted Select _ _ _ (c.in_default.ensures ∙ rw (c.none_after_1.ensures, c.is_busy-busy.ensures, c.changes_mode-changes_mode.ensures, c.is_misaddressed-misaddressed.ensures, c.drive_in-d.ensures)) (record { answer = refl; state = c.put_moved.ensures ∙ rw (c.select.ensures, c.drive_in-d.ensures) })
