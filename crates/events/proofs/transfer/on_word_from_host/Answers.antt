-- `on_word_from_host` meets its contract.
-- Assumes nothing.
use Rattle.std.proofs.Common.{not, refl, ap}
use Rattle.refusals.specs.declared.refusal.Refusal.TheVariants.{TransferOpenOrNot}
use Rattle.parts.specs.declared.kind.Kind.TheVariants.{Use}
use Rattle.parts.specs.declared.kind.Work.TheVariants.{WordFromHost}
use Rattle.events.specs.State.{drive_in}
use Rattle.events.proofs.Done.{did_accepted_in, did_refused_in, fit}
use Rattle.events.proofs.Exchanges.{did_write, did_command}
use Rattle.events.proofs.Timely.{number_front, number_passed, number_last, timely_told, write_sent, command_sent, none_sent}
use Rattle.events.proofs.Transfers.{written}
use Rattle.events.proofs.transfer.on_word_from_host.Goals as goal

pub returns-in-Err : goal.returns-in-Err
returns-in-Err c =
    did_refused_in (Use WordFromHost) _ _ _ _ _ _ (fit c.requires.0) (number_front _ _ _ c.in-Err.ensures c.none_after_2.ensures)

pub stage-requires : goal.stage-requires
unfolding drive_in
stage-requires c =
    (c.requires.0, refl, write_sent (timely_told (fit c.requires.0)) c.if-control-eq-WRITE.true)

pub returns-then-control-eq-WRITE : goal.returns-then-control-eq-WRITE
unfolding drive_in
returns-then-control-eq-WRITE c =
    let w = written {t = (drive_in c.args.state.now).transfer} refl (write_sent (timely_told (fit c.requires.0)) c.if-control-eq-WRITE.true) in
    did_accepted_in (Use WordFromHost) _ _ _ _ _ (number_passed _ _ c.in_default.ensures c.none_after_2.ensures (ap not w.takes)) (did_write _ _ _ _ w.high (rw c.word-word.ensures at c.stage.ensures))

pub returns-then-control : goal.returns-then-control
unfolding drive_in
returns-then-control c =
    let none = none_sent (timely_told (fit c.requires.0)) c.if-control-eq-WRITE.false c.if-control.true in
    did_refused_in (Use WordFromHost) _ _ _ _ _ TransferOpenOrNot (fit c.requires.0) (number_last _ _ c.in_default.ensures c.none_after_2.ensures (ap not none))

pub send-requires : goal.send-requires
unfolding drive_in
send-requires c =
    let told = command_sent (timely_told (fit c.requires.0)) c.if-control.false in
    (fit c.requires.0, c.requires.1, told.low, told.takes)

pub returns : goal.returns
unfolding drive_in
returns c =
    let told = command_sent (timely_told (fit c.requires.0)) c.if-control.false in
    did_accepted_in (Use WordFromHost) _ _ _ _ _ (number_passed _ _ c.in_default.ensures c.none_after_2.ensures (ap not told.takes)) (did_command _ _ _ _ told.low (rw c.word-word.ensures at c.send.ensures))
