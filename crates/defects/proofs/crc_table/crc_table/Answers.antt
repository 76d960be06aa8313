-- `defects::crc_table::crc_table` meets its contract: antt computes the CRC of each octet and finds the constant.
-- Assumes nothing.
use mathlib.Core.Path.{refl}
use Rattle.laws.specs.Pick.{pick}
use Rattle.defects.specs.Crc.{crc_of, remainder_after}
use Rattle.defects.specs.CrcTable.{crc_table}
use Rattle.defects.proofs.crc_table.crc_table.Goals as goal

pub returns : goal.returns
unfolding crc_table crc_of remainder_after pick
returns c = refl
