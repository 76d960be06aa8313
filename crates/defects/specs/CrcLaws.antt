-- What makes the CRC a check of a data field.
use Rattle.std.specs.Prelude.{ℕ, ◌^◌, ◌<◌, ◌≡◌, List, ◌++◌}
use Rattle.laws.specs.Octets.{AllOctets, octets_of}
use Rattle.defects.specs.Crc.{crc_of, remainder_after}

pub record CrcLaws : Type 0 where
  -- "The 2 octet CRC-16": it has room in two octets.
  pub crc_fits : (octets : List ℕ) → AllOctets octets → crc_of octets < 2 ^ 16
  -- The octets with their CRC behind them leave no remainder.
  pub crc_checks : (octets : List ℕ) → AllOctets octets → remainder_after 0 (octets ++ octets_of 2 (crc_of octets)) ≡ 0
