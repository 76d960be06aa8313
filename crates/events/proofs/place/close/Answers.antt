-- `close` meets its contract.
-- Assumes nothing.
use Rattle.std.proofs.Common.{◌∙◌}
use Rattle.drive.specs.Drive.{closed}
use Rattle.events.proofs.Changes.{transfer_put}
use Rattle.events.proofs.Done.{known}
use Rattle.events.proofs.place.close.Goals as goal

pub returns : goal.returns
unfolding closed
returns c =
    c.put_transfer.ensures ∙ transfer_put 0 _ c.requires.long (known c.requires)
