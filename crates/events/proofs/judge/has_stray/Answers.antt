-- `has_stray` meets its contract.
-- Assumes nothing.
use Rattle.std.proofs.Common.{refl}
use Rattle.events.specs.Unsound.{has_stray}
use Rattle.events.proofs.judge.has_stray.Goals as goal

pub returns : goal.returns
unfolding has_stray
returns c = refl
