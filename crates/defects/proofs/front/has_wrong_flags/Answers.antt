-- `defects::front::has_wrong_flags` meets its contract.
-- Assumes nothing.
use mathlib.Core.Path.{refl}
use Rattle.defects.specs.Judging.{has_wrong_flags}
use Rattle.defects.proofs.front.has_wrong_flags.Goals as goal

pub returns : goal.returns
unfolding has_wrong_flags
returns c = refl
