-- `refuse_short` meets its contract: what an event with no staging words is refused with, and nothing changed.
-- Assumes nothing.
use Rattle.events.proofs.Batches.{refused_short}
use Rattle.events.proofs.event.refuse_short.Goals as goal

pub returns : goal.returns
returns c =
    refused_short c.requires c.work.ensures
