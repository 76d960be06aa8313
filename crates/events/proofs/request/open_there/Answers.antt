-- `open_there` meets its contract.
-- Assumes nothing.
use Rattle.std.proofs.Common.{sym, refl, eq-eqb, ne_eqb}
use Rattle.drive.specs.Request.{opening}
use Rattle.events.specs.State.{drive_in}
use Rattle.events.proofs.Asking.{at_target_fit, did_at_target}
use Rattle.events.proofs.Done.{did_first, did_second}
use Rattle.events.proofs.request.open_there.Goals as goal

pub returns-then-not-is_at_target : goal.returns-then-not-is_at_target
unfolding opening
returns-then-not-is_at_target c =
    did_second _ _ _ _ c.is_at_target.ensures (c.if-not-is_at_target.true) c.«open».ensures

pub fault-requires : goal.fault-requires
fault-requires c =
    (c.requires.0, c.requires.1)

pub returns-then-state : goal.returns-then-state
unfolding opening drive_in
returns-then-state c =
    did_first _ _ _ _ c.is_at_target.ensures (c.if-not-is_at_target.false) (did_first _ _ _ _ (sym (eq-eqb _ _ c.if-state.true)) refl c.fault.ensures)

pub open-requires-2 : goal.open-requires-2
unfolding drive_in
open-requires-2 c =
    (at_target_fit c.requires.0 c.if-state.false c.go_to_target.ensures, c.requires.2)

pub returns : goal.returns
unfolding opening drive_in
returns c =
    did_first _ _ _ _ c.is_at_target.ensures (c.if-not-is_at_target.false) (did_second _ _ _ _ (sym (ne_eqb _ _ c.if-state.false)) refl (did_at_target _ c.requires.0 c.go_to_target.ensures c.open-2.ensures))
