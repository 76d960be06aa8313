-- `noticed` meets its contract.
-- Assumes nothing.
use Rattle.parts.specs.Pending.{bit6, noticed}
use Rattle.parts.proofs.pending.Pending.noticed.Goals as goal

pub with_bit-requires : goal.with_bit-requires
with_bit-requires c = bit6

pub returns : goal.returns
unfolding noticed
returns c = cc
