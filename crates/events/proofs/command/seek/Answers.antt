-- `seek` meets its contract.
-- Assumes nothing.
use Rattle.parts.proofs.Bounds.{limits}
use Rattle.drive.proofs.Sound.{sound}
use Rattle.drive.specs.Command.{seeking}
use Rattle.events.specs.State.{drive_in}
use Rattle.events.proofs.Done.{did_second}
use Rattle.events.proofs.Exchanges.{sought_by, did_seek, did_bad}
use Rattle.events.proofs.command.seek.Goals as goal

pub returns-then-high-is_place : goal.returns-then-high-is_place
unfolding drive_in
returns-then-high-is_place c =
    did_seek _ _ c.args.high c.args.low _ _ c.requires.0 (rw (c.is_target.ensures, c.is_place.ensures, c.setup_in-setup.ensures)) c.if-high-is_place.true c.put_aim.ensures

pub fault-requires : goal.fault-requires
fault-requires c =
    (c.requires.0, c.requires.1)

pub returns : goal.returns
unfolding seeking drive_in
returns c =
    did_second _ _ _ _ (rw (c.is_target.ensures, c.is_place.ensures, c.setup_in-setup.ensures) (sought_by _ c.args.high c.args.low _ _ _ (limits _ (sound _ c.requires.0.sound).limits))) c.if-high-is_place.false
    (did_bad _ _ _ c.fault.ensures)
