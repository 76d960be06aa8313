-- `defects::crc::crc` meets its contract: the register is the CRC of the octets read so far.
-- Assumes nothing.
use mathlib.Core.Path.{◌≡◌}
use lib.ListN.{take}
use Rattle.defects.specs.Crc.{crc_of}
use Rattle.defects.proofs.crc.crc.Given as goal

abbrev pub invariant-loop-octet : goal.invariant-loop-octet
invariant-loop-octet l = l.register ≡ crc_of (take l.octet-index l.octets)
