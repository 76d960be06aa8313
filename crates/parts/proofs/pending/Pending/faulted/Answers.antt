-- `faulted` meets its contract.
-- Assumes nothing.
use Rattle.parts.specs.Pending.{faulted}
use Rattle.parts.proofs.Bits.{one_bit}
use Rattle.parts.proofs.pending.Pending.faulted.Goals as goal

pub with_bit-requires : goal.with_bit-requires
with_bit-requires c = rw c.from.ensures (one_bit c.args.fault)

pub returns : goal.returns
unfolding faulted
returns c = cc
