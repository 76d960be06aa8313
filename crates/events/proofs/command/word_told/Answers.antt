-- `word_told` meets its contract.
-- Assumes nothing.
use Rattle.std.proofs.Common.{◌≡◌, ◌<◌, arith, ne_eqb}
use Rattle.laws.specs.Pick.{pick}
use Rattle.parts.specs.Command.{parameter_words}
use Rattle.parts.proofs.Bounds.{parameters_few}
use Rattle.drive.specs.Command.{words_told}
use Rattle.events.specs.State.{drive_in}
use Rattle.events.proofs.command.word_told.Goals as goal

pub status_word-requires : goal.status_word-requires
unfolding parameter_words pick
status_word-requires c =
    (c.requires.0, c.requires.1, rw c.in-68.is at c.requires.2)

pub position_word-requires : goal.position_word-requires
position_word-requires c =
    (c.requires.0, omega (arith, c.requires.2, parameters_few c.args.control))

pub returns-in-68 : goal.returns-in-68
unfolding words_told pick
returns-in-68 c =
    rw c.in-68.is c.status_word.ensures

pub returns-in-70 : goal.returns-in-70
unfolding words_told parameter_words pick drive_in
returns-in-70 c =
    let one : c.args.moved < 1 = rw c.in-70.is at c.requires.2 in
    let none : c.args.moved ≡ 0 = omega arith in
    rw (c.in-70.is, none)

pub returns-in_default : goal.returns-in_default
unfolding words_told pick
returns-in_default c =
    rw (ne_eqb _ 0x44 c.in_default.in_default-own.rest.0.1, ne_eqb _ 0x46 c.in_default.in_default-own.rest.1) c.position_word.ensures
