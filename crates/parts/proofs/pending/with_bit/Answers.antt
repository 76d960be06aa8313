-- `with_bit` meets its contract.
-- Assumes nothing.
use Rattle.parts.proofs.Bits.{joined_by_or}
use Rattle.parts.proofs.pending.with_bit.Goals as goal

pub returns : goal.returns
returns c = joined_by_or c.args.octet c.requires c.ranges.octet.fits
