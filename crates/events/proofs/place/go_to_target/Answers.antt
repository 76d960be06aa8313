-- `go_to_target` meets its contract.
-- Assumes nothing.
use Rattle.events.proofs.Done.{known}
use Rattle.events.proofs.Changes.{target_reached}
use Rattle.events.proofs.place.go_to_target.Goals as goal

pub returns : goal.returns
returns c = target_reached _ (c.requires.long) (known c.requires)
