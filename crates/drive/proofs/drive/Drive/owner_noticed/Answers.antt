-- `owner_noticed` meets its contract.
-- Assumes nothing.
use Rattle.drive.specs.Drive.{owner_noticed}
use Rattle.drive.specs.State.{pending_on}
use Rattle.laws.specs.Pick.{pick}
use Rattle.drive.proofs.drive.Drive.owner_noticed.Goals as goal

pub returns-then-is_owned_by_other : goal.returns-then-is_owned_by_other
unfolding owner_noticed pending_on pick
returns-then-is_owned_by_other c = rw (← c.is_owned_by_other.ensures, c.if-is_owned_by_other.true) (cc)

pub returns : goal.returns
unfolding owner_noticed pending_on pick
returns c = rw (← c.is_owned_by_other.ensures, c.if-is_owned_by_other.false)
