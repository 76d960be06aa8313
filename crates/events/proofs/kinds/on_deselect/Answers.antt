-- `on_deselect` meets its contract.
-- Assumes nothing.
use Rattle.std.proofs.Common.{refl, ◌∙◌}
use Rattle.events.proofs.Done.{did_accepted, did_refused}
use Rattle.events.proofs.Timely.{number_as, timely_told}
use Rattle.parts.specs.declared.kind.Kind.TheVariants.{Deselect}
use Rattle.events.proofs.kinds.on_deselect.Goals as goal

pub returns-in-Err : goal.returns-in-Err
returns-in-Err c =
    did_refused Deselect _ _ _ _ c.requires (number_as _ c.in-Err.ensures c.none_at_all-formed.ensures (timely_told c.requires).one)

pub put_moved-requires : goal.put_moved-requires
put_moved-requires c =
    c.requires.long

pub returns : goal.returns
returns c =
    did_accepted Deselect _ _ _ (number_as _ c.in_default.ensures c.none_at_all-formed.ensures (timely_told c.requires).one) (record { answer = refl; state = c.put_moved.ensures ∙ rw (c.deselect.ensures, c.drive_in-d.ensures) })
