-- The table of the CRC: at each octet the CRC of that octet alone.
use Rattle.std.specs.Prelude.{ℕ, List, [], ◌∷◌}
use Rattle.laws.specs.Lists.{table_from}
use Rattle.defects.specs.Crc.{crc_of}

unfoldable pub crc_table : List ℕ
crc_table = table_from (λ octet. crc_of (octet ∷ [])) 0 256
