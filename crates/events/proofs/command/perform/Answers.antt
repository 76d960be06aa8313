-- `perform` meets its contract.
-- Assumes nothing.
use Rattle.std.proofs.Common.{sym, refl, ◌∙◌}
use Rattle.parts.specs.declared.command.Function.TheVariants.{PriorityReserve, Reserve, Release, NoOperation, Recalibrate, ActsOnMore, NotListed}
use Rattle.events.proofs.Changes.{cylinder_zeroed}
use Rattle.events.proofs.Done.{did_nothing, known}
use Rattle.events.proofs.Exchanges.{did_bad, did_functioned}
use Rattle.events.proofs.command.perform.Goals as goal

pub put_moved-requires : goal.put_moved-requires
put_moved-requires c =
    c.requires.0.long

pub put_moved-requires-in-Reserve : goal.put_moved-requires-in-Reserve
put_moved-requires-in-Reserve c =
    c.requires.0.long

pub put_moved-requires-in-Release : goal.put_moved-requires-in-Release
put_moved-requires-in-Release c =
    c.requires.0.long

pub fault-requires : goal.fault-requires
fault-requires c =
    (c.requires.0, c.requires.1)

pub fault-requires-in-NotListed : goal.fault-requires-in-NotListed
fault-requires-in-NotListed c =
    (c.requires.0, c.requires.1)

pub returns-in-PriorityReserve : goal.returns-in-PriorityReserve
returns-in-PriorityReserve c =
    did_functioned _ _ _ PriorityReserve (sym c.in-PriorityReserve.is ∙ c.function_of-function.ensures.answer)
    (record { answer = refl; state = c.put_moved.ensures ∙ rw (c.priority_reserve.ensures, c.drive_in-d.ensures) })

pub returns-in-Reserve : goal.returns-in-Reserve
returns-in-Reserve c =
    did_functioned _ _ _ Reserve (sym c.in-Reserve.is ∙ c.function_of-function.ensures.answer)
    (record { answer = refl; state = c.put_moved-in-Reserve.ensures ∙ rw (c.reserve.ensures, c.drive_in-d-in-Reserve.ensures) })

pub returns-in-Release : goal.returns-in-Release
returns-in-Release c =
    did_functioned _ _ _ Release (sym c.in-Release.is ∙ c.function_of-function.ensures.answer)
    (record { answer = refl; state = c.put_moved-in-Release.ensures ∙ rw (c.release.ensures, c.drive_in-d-in-Release.ensures) })

pub returns-in-NoOperation : goal.returns-in-NoOperation
returns-in-NoOperation c =
    did_functioned _ _ _ NoOperation (sym c.in-NoOperation.is ∙ c.function_of-function.ensures.answer)
    (did_nothing _ c.requires.0)

pub returns-in-Recalibrate : goal.returns-in-Recalibrate
returns-in-Recalibrate c =
    did_functioned _ _ _ Recalibrate (sym c.in-Recalibrate.is ∙ c.function_of-function.ensures.answer)
    (record { answer = refl; state = cylinder_zeroed _ c.requires.0.long (known c.requires.0) })

pub returns-in-ActsOnMore : goal.returns-in-ActsOnMore
returns-in-ActsOnMore c =
    did_functioned _ _ _ ActsOnMore (sym c.in-ActsOnMore.is ∙ c.function_of-function.ensures.answer)
    (did_bad _ _ _ c.fault.ensures)

pub returns-in-NotListed : goal.returns-in-NotListed
returns-in-NotListed c =
    did_functioned _ _ _ NotListed (sym c.in-NotListed.is ∙ c.function_of-function.ensures.answer)
    (did_bad _ _ _ c.fault-in-NotListed.ensures)
