-- The cycle of calls {controllers_turn, drives_turn}: either turn takes a setting, and leaves the rest to the turn that has it.
-- Assumes nothing.
use Rattle.std.proofs.Common.{◌-◌, length, take, drop}
use Rattle.laws.specs.Pick.{pick}
use Rattle.laws.proofs.Runs.{rest_whole}
use Rattle.lines.proofs.TurnByTurn.{controllers, drives, turn_ended, turn_goes_on}
use Rattle.lines.proofs.plain.+controllers_turn_drives_turn.Goals as goal

pub controllers_turn-returns-then-rest-lt2 : goal.controllers_turn-returns-then-rest-lt2
controllers_turn-returns-then-rest-lt2 t c =
    turn_ended controllers c.args.follower c.args.rest.now c.args.answers.now _ _ c.requires.0 c.if-rest-lt2.true c.requires.2 c.takes-taken.ensures c.octet.ensures.answer

pub controllers_turn-returns-then-is_drives : goal.controllers_turn-returns-then-is_drives
unfolding pick
controllers_turn-returns-then-is_drives t c =
    let rest = c.args.rest.now in
    turn_goes_on controllers c.args.follower rest (take (length rest - 1) (drop 1 rest)) c.args.answers.now c.takes-taken.result c.octet.result c.is_drives.result c.drives_turn.result c.drives_turn.new.answers
    c.if-rest-lt2.false c.requires.2 (rest_whole rest 1) c.takes-taken.ensures c.octet.ensures.answer c.is_drives.ensures (rw c.if-is_drives.true c.drives_turn.ensures)

pub controllers_turn-returns : goal.controllers_turn-returns
unfolding pick
controllers_turn-returns t c =
    let rest = c.args.rest.now in
    turn_goes_on controllers c.args.follower rest (take (length rest - 1) (drop 1 rest)) c.args.answers.now c.takes-taken.result c.octet.result c.is_drives.result c.controllers_turn.result c.controllers_turn.new.answers
    c.if-rest-lt2.false c.requires.2 (rest_whole rest 1) c.takes-taken.ensures c.octet.ensures.answer c.is_drives.ensures (rw c.if-is_drives.false c.controllers_turn.ensures)

pub drives_turn-returns-then-rest-lt2 : goal.drives_turn-returns-then-rest-lt2
drives_turn-returns-then-rest-lt2 t c =
    turn_ended drives c.args.follower c.args.rest.now c.args.answers.now _ _ c.requires.0 c.if-rest-lt2.true c.requires.2 c.takes-taken.ensures c.octet.ensures.answer

pub drives_turn-returns-then-is_controllers : goal.drives_turn-returns-then-is_controllers
unfolding pick
drives_turn-returns-then-is_controllers t c =
    let rest = c.args.rest.now in
    let taken = c.takes-taken.result in
    turn_goes_on drives c.args.follower rest (take (length rest - 1) (drop 1 rest)) c.args.answers.now taken c.octet.result c.is_controllers.result c.controllers_turn.result c.controllers_turn.new.answers
    c.if-rest-lt2.false c.requires.2 (rest_whole rest 1) c.takes-taken.ensures c.octet.ensures.answer c.is_controllers.ensures (rw c.if-is_controllers.true c.controllers_turn.ensures)

pub drives_turn-returns : goal.drives_turn-returns
unfolding pick
drives_turn-returns t c =
    let rest = c.args.rest.now in
    let taken = c.takes-taken.result in
    turn_goes_on drives c.args.follower rest (take (length rest - 1) (drop 1 rest)) c.args.answers.now taken c.octet.result c.is_controllers.result c.drives_turn.result c.drives_turn.new.answers
    c.if-rest-lt2.false c.requires.2 (rest_whole rest 1) c.takes-taken.ensures c.octet.ensures.answer c.is_controllers.ensures (rw c.if-is_controllers.false c.drives_turn.ensures)
