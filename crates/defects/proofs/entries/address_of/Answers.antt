-- `defects::entries::address_of` meets its contract: the three numbers side by side fit.
-- Assumes nothing.
use Rattle.defects.specs.Defect.{address}
use native.Mathlib.Omega.{arith}
use Rattle.defects.proofs.entries.address_of.Goals as goal

pub returns : goal.returns
unfolding address
returns c = omega arith
