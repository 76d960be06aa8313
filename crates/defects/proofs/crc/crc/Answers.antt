-- `defects::crc::crc` meets its contract: the register is the CRC of the octets read so far.
-- Assumes nothing.
use mathlib.Core.Path.{refl}
use Rattle.laws.specs.Pick.{pick}
use Rattle.defects.specs.Crc.{crc_of, remainder_after}
use Rattle.defects.proofs.crc.crc.Goals as goal

pub loop-octet-init : goal.loop-octet-init
unfolding crc_of remainder_after pick
loop-octet-init c = refl
