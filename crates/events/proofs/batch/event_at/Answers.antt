-- `event_at` meets its contract.
-- Assumes nothing.
use Rattle.drive.specs.Batch.{event_of}
use Rattle.std.proofs.Common.{rules}
use Rattle.events.proofs.batch.event_at.Goals as goal

pub returns : goal.returns
unfolding event_of
returns c = search rules
