-- `move_to` meets its contract.
-- Assumes nothing.
use Rattle.events.proofs.Done.{did_first, did_second}
use Rattle.drive.specs.Request.{placed, positioned}
use Rattle.std.proofs.Common.{refl}
use borrow.Author.Tests.{not-false}
use Rattle.events.proofs.Asking.{heard_fit, did_heard, did_stopped}
use Rattle.events.proofs.request.move_to.Goals as goal

pub returns-then-not-take_up : goal.returns-then-not-take_up
unfolding positioned
returns-then-not-take_up c =
    did_stopped _ _ (λ at. placed at c.args.port c.args.place) _ c.requires.0 c.take_up.ensures (c.if-not-take_up.true)

pub put_place-requires : goal.put_place-requires
put_place-requires c = search (heard_fit, not-false)

pub returns-then-is_place : goal.returns-then-is_place
unfolding positioned
returns-then-is_place c =
    did_heard _ _ (λ at. placed at c.args.port c.args.place) _ c.requires.0 c.take_up.ensures (c.if-not-take_up.false) (did_first _ _ _ _ (rw c.setup_in-setup.ensures at c.is_place.ensures) c.if-is_place.true (record { answer = refl; state = c.put_place.ensures }))

pub fault-requires : goal.fault-requires
fault-requires c = search (heard_fit, not-false)

pub returns : goal.returns
unfolding positioned
returns c =
    did_heard _ _ (λ at. placed at c.args.port c.args.place) _ c.requires.0 c.take_up.ensures (c.if-not-take_up.false) (did_second _ _ _ _ (rw c.setup_in-setup.ensures at c.is_place.ensures) c.if-is_place.false c.fault.ensures)
