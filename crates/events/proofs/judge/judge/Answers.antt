-- `judge` meets its contract: 11, then 10.
-- Assumes nothing.
use Rattle.std.proofs.Common.{sym, ◌∙◌}
use Rattle.laws.specs.Pick.{pick}
use Rattle.parts.specs.Setup.{lacks_room}
use Rattle.drive.specs.Refusal.{row10}
use Rattle.drive.specs.Able.{judgement}
use Rattle.drive.proofs.Sound.{sound}
use Rattle.events.proofs.judge.judge.Goals as goal

pub returns-then-is_unsound : goal.returns-then-is_unsound
unfolding judgement pick
returns-then-is_unsound c = rw (← c.is_unsound.ensures, c.if-is_unsound.true)

pub returns-then-lacks_room : goal.returns-then-lacks_room
unfolding judgement pick row10 lacks_room
returns-then-lacks_room c =
    let passes = sym c.is_unsound.ensures ∙ c.if-is_unsound.false in
    let room = rw (c.setup_in-setup.ensures, (sound _ passes).limits) at c.lacks_room.ensures in
    rw (passes, ← room, c.if-lacks_room.true)

pub returns : goal.returns
unfolding judgement pick row10 lacks_room
returns c =
    let passes = sym c.is_unsound.ensures ∙ c.if-is_unsound.false in
    let room = rw (c.setup_in-setup.ensures, (sound _ passes).limits) at c.lacks_room.ensures in
    rw (passes, ← room, c.if-lacks_room.false)
