-- `on_data_control` meets its contract.
-- Assumes nothing.
use Rattle.events.proofs.Done.{did_accepted, did_refused}
use Rattle.events.proofs.Timely.{number_as, timely_told}
use Rattle.parts.specs.declared.kind.Kind.TheVariants.{Use}
use Rattle.parts.specs.declared.kind.Work.TheVariants.{DataControl}
use Rattle.events.proofs.kinds.on_data_control.Goals as goal

pub returns-in-Err : goal.returns-in-Err
returns-in-Err c =
    did_refused (Use DataControl) _ _ _ _ c.requires.0 (number_as _ c.in-Err.ensures c.none_after_1-formed.ensures (timely_told c.requires.0).one)

pub returns : goal.returns
returns c =
    did_accepted (Use DataControl) _ _ _ (number_as _ c.in_default.ensures c.none_after_1-formed.ensures (timely_told c.requires.0).one) c.ask.ensures
