-- `transfer_in` meets its contract.
-- Assumes nothing.
use Rattle.std.proofs.Common.{refl}
use Rattle.events.specs.State.{drive_in}
use Rattle.events.proofs.state.transfer_in.Goals as goal

pub returns : goal.returns
unfolding drive_in
returns c = refl
