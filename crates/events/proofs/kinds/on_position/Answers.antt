-- `on_position` meets its contract.
-- Assumes nothing.
use Rattle.events.proofs.Done.{did_accepted, did_refused}
use Rattle.events.proofs.Timely.{number_as, timely_told}
use Rattle.parts.specs.declared.kind.Kind.TheVariants.{Use}
use Rattle.parts.specs.declared.kind.Work.TheVariants.{Position}
use Rattle.std.proofs.Common.{true, refl}
use Rattle.events.proofs.kinds.on_position.Goals as goal

pub returns-in-Err : goal.returns-in-Err
returns-in-Err c =
    did_refused (Use Position) _ _ _ _ c.requires.0 (number_as _ {formed = true} c.in-Err.ensures refl (timely_told c.requires.0).one)

pub returns : goal.returns
returns c =
    did_accepted (Use Position) _ _ _ (number_as _ {formed = true} c.in_default.ensures refl (timely_told c.requires.0).one) (rw c.word.ensures at c.move_to.ensures)
