-- `aim_at` meets its contract.
-- Assumes nothing.
use Rattle.events.proofs.Done.{did_first, did_second, known}
use Rattle.events.proofs.Changes.{target_put}
use Rattle.drive.specs.Request.{aimed, targeted}
use Rattle.std.proofs.Common.{refl}
use borrow.Author.Tests.{not-false}
use Rattle.events.proofs.Asking.{heard_fit, did_heard, did_stopped}
use Rattle.events.proofs.request.aim_at.Goals as goal

pub returns-then-not-take_up : goal.returns-then-not-take_up
unfolding targeted
returns-then-not-take_up c =
    did_stopped _ _ (λ at. aimed at c.args.port c.args.target) _ c.requires.0 c.take_up.ensures (c.if-not-take_up.true)

pub returns-then-is_target : goal.returns-then-is_target
unfolding targeted
returns-then-is_target c =
    let f = heard_fit c.requires.0 c.take_up.ensures (c.if-not-take_up.false) in
    did_heard _ _ (λ at. aimed at c.args.port c.args.target) _ c.requires.0 c.take_up.ensures (c.if-not-take_up.false) (did_first _ _ _ _ (rw c.setup_in-setup.ensures at c.is_target.ensures) c.if-is_target.true (record { answer = refl; state = target_put _ _ f.long (known f) }))

pub fault-requires : goal.fault-requires
fault-requires c = search (heard_fit, not-false)

pub returns : goal.returns
unfolding targeted
returns c =
    did_heard _ _ (λ at. aimed at c.args.port c.args.target) _ c.requires.0 c.take_up.ensures (c.if-not-take_up.false) (did_second _ _ _ _ (rw c.setup_in-setup.ensures at c.is_target.ensures) c.if-is_target.false c.fault.ensures)
