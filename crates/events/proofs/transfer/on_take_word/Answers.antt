-- `on_take_word` meets its contract.
-- Assumes nothing.
use Rattle.std.proofs.Common.{not, ap}
use Rattle.refusals.specs.declared.refusal.Refusal.TheVariants.{TransferOpenOrNot}
use Rattle.parts.specs.declared.kind.Kind.TheVariants.{Use}
use Rattle.parts.specs.declared.kind.Work.TheVariants.{TakeWord}
use Rattle.drive.proofs.Own.{able_to_read}
use Rattle.events.specs.State.{drive_in}
use Rattle.events.proofs.Done.{did_accepted, did_refused, fit}
use Rattle.events.proofs.Exchanges.{did_read, did_respond}
use Rattle.events.proofs.Timely.{number_front, number_passed, number_last, timely_told, read_told, response_told, none_told}
use Rattle.events.proofs.transfer.on_take_word.Goals as goal

pub returns-in-Err : goal.returns-in-Err
returns-in-Err c =
    did_refused (Use TakeWord) _ _ _ _ (fit c.requires.0) (number_front _ _ _ c.in-Err.ensures c.none_at_all.ensures)

pub take-requires : goal.take-requires
unfolding drive_in
take-requires c =
    let told = read_told (timely_told (fit c.requires.0)) c.if-control-eq-READ.true in
    (c.requires.0, able_to_read c.requires.0.passable told.gives, told.read)

pub returns-then-control-eq-READ : goal.returns-then-control-eq-READ
unfolding drive_in
returns-then-control-eq-READ c =
    let told = read_told (timely_told (fit c.requires.0)) c.if-control-eq-READ.true in
    did_accepted (Use TakeWord) _ _ _ (number_passed _ _ c.in_default.ensures c.none_at_all.ensures (ap not told.gives)) (did_read _ _ told.high c.take.ensures)

pub returns-then-control-ne-RESPONSE : goal.returns-then-control-ne-RESPONSE
unfolding drive_in
returns-then-control-ne-RESPONSE c =
    let none = none_told (timely_told (fit c.requires.0)) c.if-control-eq-READ.false c.if-control-ne-RESPONSE.true in
    did_refused (Use TakeWord) _ _ _ TransferOpenOrNot (fit c.requires.0) (number_last _ _ c.in_default.ensures c.none_at_all.ensures (ap not none))

pub respond-requires : goal.respond-requires
unfolding drive_in
respond-requires c =
    let told = response_told (timely_told (fit c.requires.0)) c.if-control-ne-RESPONSE.false in
    (fit c.requires.0, c.requires.1, told.low, told.gives)

pub returns : goal.returns
unfolding drive_in
returns c =
    let told = response_told (timely_told (fit c.requires.0)) c.if-control-ne-RESPONSE.false in
    did_accepted (Use TakeWord) _ _ _ (number_passed _ _ c.in_default.ensures c.none_at_all.ensures (ap not told.gives)) (did_respond _ _ told.low c.respond.ensures)
