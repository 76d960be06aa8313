-- "Read and write the map": what was encoded is decoded, and what was written on the last cylinder is read off it, said of what the
-- calls promise. `proofs/CallRoundTrip` proves both.
use Rattle.std.specs.Prelude.{ℕ, ◌*◌, ◌/◌, ◌≤◌, ◌≡◌, List, Result, Ok, length, take}
use Rattle.laws.specs.Lists.{written_over}
use Rattle.laws.specs.Octets.{AllOctets}
use Rattle.parts.specs.declared.setup.Setup.{Setup}
use Rattle.defects.specs.Place.{field_octets, data_fields}
use Rattle.defects.specs.Decoding.{map_told, DecodedMap}
use Rattle.defects.specs.Encoding.{EncodedMap}
use Rattle.defects.specs.Sectors.{ReadMap, WroteMap}
use Rattle.defects.specs.declared.decoding.MapRead.{MapRead}
use Rattle.defects.specs.declared.offence.Offence.{Offence}

pub record CallRoundTrip : Type 0 where
  -- What was encoded, decoded with room enough lent, gives the storage track and the defects that were encoded.
  pub decode_encode : (s : Setup) (cylinder head : ℕ) (defects before after lent lent' : List ℕ) (size : ℕ) (r : Result MapRead Offence)
      → AllOctets defects → EncodedMap s cylinder head defects before after (Ok size)
      → size / 3 ≤ length lent → DecodedMap s (take size after) lent lent' r
      → (r ≡ Ok (map_told (length defects / 12) cylinder head)) × (lent' ≡ written_over lent defects)
  -- What was written on the last cylinder, read off it with room enough lent, gives those that were written.
  pub read_write : (s : Setup) (cylinder head : ℕ) (defects before after lent lent' : List ℕ) (r : Result MapRead Offence)
      → AllOctets defects → WroteMap s cylinder head defects before after (Ok tt)
      → data_fields s * field_octets s / 3 ≤ length lent → ReadMap s after lent lent' r
      → (r ≡ Ok (map_told (length defects / 12) cylinder head)) × (lent' ≡ written_over lent defects)
