-- `pending_in` meets its contract.
-- Assumes nothing.
use Rattle.std.proofs.Common.{rules}
use Rattle.events.specs.State.{pending_in}
use Rattle.events.proofs.state.pending_in.Goals as goal

pub returns : goal.returns
unfolding pending_in
returns c = search rules
