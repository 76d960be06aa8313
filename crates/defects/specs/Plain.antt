-- The plain spelling of a map, which is the one that an encoding gives, and what a decoded map encodes to. `proofs/EncodeDecode` proves it.
use Rattle.std.specs.Prelude.{ℕ, ◌*◌, ◌<◌, ◌≤◌, ◌≡◌, Bool, true, false, List, Result, Ok, ◌↔◌, length, take}
use Rattle.laws.specs.Octets.{AllOctets}
use Rattle.parts.specs.Setup.{within_limits}
use Rattle.parts.specs.declared.setup.Setup.{Setup}
use Rattle.defects.specs.Defect.{behind_all}
use Rattle.defects.specs.Field.{front_of, is_last, is_flagged, is_ignored, slots, defects_in}
use Rattle.defects.specs.Place.{field_octets, data_fields}
use Rattle.defects.specs.Walk.{is_ended, field_at, walk_at, is_original, defects_before}
use Rattle.refusals.specs.declared.refusal.Refusal.{Refusal}
use Rattle.defects.specs.Decoding.{map_told, defects_of, DecodedMap}
use Rattle.defects.specs.Decoded.{WithoutOffence}
use Rattle.defects.specs.Encoding.{Value, is_unordered, is_encodable, map_octets, map_length, EncodedMap}

-- The value that a decoded map tells.
abbrev pub value_of : Setup → List ℕ → Value
value_of s octets =
    let end = walk_at s octets (data_fields s) in
    record { cylinder = end.cylinder; head = end.head; defects = defects_of s octets }

-- A data field that begins a set, as the plain spelling has it.
pub record PlainSet (s : Setup) (octets : List ℕ) (k : ℕ) : Type 0 where
  -- Every set but the last is full.
  pub full : is_last (front_of (field_at s octets k)).flags ≡ false → length (defects_in (field_at s octets k)) ≡ slots (field_octets s)
  -- The last has at least one entry, unless it is the only set.
  pub some_entry : is_last (front_of (field_at s octets k)).flags ≡ true → 0 < (walk_at s octets k).set → 0 < length (defects_in (field_at s octets k))
  -- Bit 3 is set exactly where an entry is out of sequence.
  pub flagged : is_flagged (front_of (field_at s octets k)).flags ≡ is_unordered (behind_all 0 (defects_before s octets k)) (defects_in (field_at s octets k))

pub record Plain (s : Setup) (octets : List ℕ) : Type 0 where
  -- No data field of the map is ignored.
  pub none_ignored : (k : ℕ) → k < data_fields s → is_ended (walk_at s octets k) ≡ false → is_ignored (field_at s octets k) ≡ false
  -- And each of its sets is plain.
  pub sets : (k : ℕ) → k < data_fields s → is_original (walk_at s octets k) (field_at s octets k) ≡ true → PlainSet s octets k

pub record EncodeDecode : Type 0 where
  -- "what no decoding yields" is refused: what a decoding yields can be encoded.
  pub encodable : (alone : Bool) (s : Setup) (octets : List ℕ) → WithoutOffence alone s octets → is_encodable s (value_of s octets) ≡ true
  -- Encoding a decoded map gives the same octets if and only if they are in the plain spelling.
  pub encode_decode : (s : Setup) (octets : List ℕ) → within_limits s ≡ true → AllOctets octets → WithoutOffence true s octets
      → map_octets s (value_of s octets) ≡ octets ↔ Plain s octets
  -- The same of the calls: what `decode_map` told, handed to `encode_map` with room enough, is written, and what is written are the octets
  -- that were decoded if and only if those are in the plain spelling.
  pub of_the_calls : (s : Setup) (octets lent lent' before after : List ℕ) (count cylinder head : ℕ) (answer : Result ℕ Refusal)
      → AllOctets octets → DecodedMap s octets lent lent' (Ok (map_told count cylinder head))
      → map_length s count ≤ length before → EncodedMap s cylinder head (take (12 * count) lent') before after answer
      → (answer ≡ Ok (map_length s count)) × (take (map_length s count) after ≡ octets ↔ Plain s octets)
