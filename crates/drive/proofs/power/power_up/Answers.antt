-- `power_up` meets its contract.
-- Assumes nothing.
use mathlib.Core.Path.{ap, sym, ◌∙◌}
use Rattle.laws.specs.Pick.{pick}
use Rattle.laws.specs.Rows.{tells}
use Rattle.parts.specs.Setup.{lacks_room}
use Rattle.drive.specs.Refusal.{row10}
use Rattle.drive.proofs.power.power_up.Goals as goal

pub returns-then-not-within_limits : goal.returns-then-not-within_limits
unfolding pick
returns-then-not-within_limits c = record { answer = rw (sym c.within_limits.ensures ∙ c.if-not-within_limits.true) }

pub returns-then-lacks_room : goal.returns-then-lacks_room
unfolding pick row10 lacks_room
returns-then-lacks_room c =
    let e = sym c.within_limits.ensures ∙ c.if-not-within_limits.false in
    let f = sym (rw e at c.lacks_room.ensures) ∙ c.if-lacks_room.true in
    record { answer = rw (e, f) }

pub returns : goal.returns
unfolding pick row10 lacks_room
returns c =
    let e = sym c.within_limits.ensures ∙ c.if-not-within_limits.false in
    let f = sym (rw e at c.lacks_room.ensures) ∙ c.if-lacks_room.false in
    record { answer = rw (e, f) (ap tells c.at_rest.ensures) }
