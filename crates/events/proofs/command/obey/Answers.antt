-- `obey` meets its contract.
-- Assumes nothing.
use Rattle.std.proofs.Common.{sym}
use Rattle.events.specs.State.{drive_in}
use Rattle.events.proofs.Done.{did_as}
use Rattle.events.proofs.Exchanges.{obeyed_01, obeyed_04, obeyed_05, obeyed_06, obeyed_07}
use Rattle.events.proofs.command.obey.Goals as goal

pub perform-requires : goal.perform-requires
perform-requires c =
    (c.requires.0, c.requires.1)

pub seek-requires : goal.seek-requires
seek-requires c =
    (c.requires.0, c.requires.1)

pub seek-requires-in-5 : goal.seek-requires-in-5
seek-requires-in-5 c =
    (c.requires.0, c.requires.1)

pub seek-requires-in-6 : goal.seek-requires-in-6
seek-requires-in-6 c =
    (c.requires.0, c.requires.1)

pub seek-requires-in_default : goal.seek-requires-in_default
seek-requires-in_default c =
    (c.requires.0, c.requires.1)

pub returns-in-1 : goal.returns-in-1
returns-in-1 c =
    did_as _ _ (sym (obeyed_01 _ _ _ _ c.in-1.is)) c.perform.ensures

pub returns-in-4 : goal.returns-in-4
unfolding drive_in
returns-in-4 c =
    did_as _ _ (sym (obeyed_04 _ _ _ _ c.in-4.is)) (rw c.place_in-here.ensures at c.seek.ensures)

pub returns-in-5 : goal.returns-in-5
unfolding drive_in
returns-in-5 c =
    did_as _ _ (sym (obeyed_05 _ _ _ _ c.in-5.is)) (rw c.place_in-here.ensures at c.seek-in-5.ensures)

pub returns-in-6 : goal.returns-in-6
unfolding drive_in
returns-in-6 c =
    did_as _ _ (sym (obeyed_06 _ _ _ _ c.in-6.is)) (rw c.place_in-here.ensures at c.seek-in-6.ensures)

pub returns-in_default : goal.returns-in_default
unfolding drive_in
returns-in_default c =
    let none = c.in_default.in_default-own.rest in
    did_as _ _ (sym (obeyed_07 _ _ _ _ none.0.0.0.1 none.0.0.1 none.0.1 none.1)) c.seek-in_default.ensures
