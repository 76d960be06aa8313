-- `ask` meets its contract.
-- Assumes nothing.
use Rattle.std.proofs.Common.{sym, refl, eq-eqb, ne_eqb}
use borrow.Author.Tests.{not-false}
use Rattle.parts.proofs.ByBits.{response_low}
use Rattle.parts.specs.Control.{control_of}
use Rattle.drive.proofs.Outcomes.{status_responds}
use Rattle.drive.specs.Request.{controlled, data_control}
use Rattle.events.proofs.Asking.{heard_fit, did_heard, did_stopped}
use Rattle.events.proofs.Done.{did_first, did_second}
use Rattle.events.proofs.request.ask.Goals as goal

pub open_code-requires : goal.open_code-requires
open_code-requires c =
    let responds = status_responds c.args.control (eq-eqb _ _ c.if-control-eq-READ_STATUS.true) in
    (c.requires.0, response_low c.args.control responds, rw responds)

pub returns-then-control-eq-READ_STATUS : goal.returns-then-control-eq-READ_STATUS
unfolding data_control
returns-then-control-eq-READ_STATUS c =
    did_first _ _ _ _ (sym (eq-eqb _ _ c.if-control-eq-READ_STATUS.true)) refl c.open_code.ensures

pub returns-then-not-take_up : goal.returns-then-not-take_up
unfolding data_control
returns-then-not-take_up c =
    did_second _ _ _ _ (sym (ne_eqb _ _ c.if-control-eq-READ_STATUS.false)) refl (did_stopped _ _ (λ at. controlled (control_of c.args.control) at c.args.port c.args.control) _ c.requires.0 c.take_up.ensures (c.if-not-take_up.true))

pub carry_out-requires : goal.carry_out-requires
carry_out-requires c = search (heard_fit, not-false)

pub returns : goal.returns
unfolding data_control
returns c =
    did_second _ _ _ _ (sym (ne_eqb _ _ c.if-control-eq-READ_STATUS.false)) refl
    (did_heard _ _ (λ at. controlled (control_of c.args.control) at c.args.port c.args.control) _ c.requires.0 c.take_up.ensures (c.if-not-take_up.false) c.carry_out.ensures)
