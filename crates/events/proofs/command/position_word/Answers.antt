-- `position_word` meets its contract.
-- Assumes nothing.
use Rattle.std.proofs.Common.{◌≡◌, arith}
use Rattle.events.specs.State.{drive_in}
use Rattle.events.proofs.command.position_word.Goals as goal

pub returns-in-0 : goal.returns-in-0
returns-in-0 c =
    rw c.in-0.is

pub returns-in-1 : goal.returns-in-1
unfolding drive_in
returns-in-1 c =
    rw c.in-1.is

pub returns-in-2 : goal.returns-in-2
unfolding drive_in
returns-in-2 c =
    rw c.in-2.is

pub returns-in-3 : goal.returns-in-3
unfolding drive_in
returns-in-3 c =
    rw c.in-3.is

pub returns-in_default : goal.returns-in_default
unfolding drive_in
returns-in_default c =
    let none = c.in_default.in_default-own.rest in
    let four : c.args.moved ≡ 4 = omega (arith, none.0.0.0.1, none.0.0.1, none.0.1, none.1, c.requires.1) in
    rw four
