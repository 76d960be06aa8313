-- "the maker's defect map read off the last cylinder": a map put there is the encoded map, it is read off as it was put, and to read is to
-- decode. `proofs/OnTheCylinder` proves it.
use Rattle.std.specs.Prelude.{ℕ, ◌+◌, ◌*◌, ◌/◌, ◌<◌, ◌≤◌, ◌≡◌, Bool, true, false, ◌&&◌, List, Result, Ok, ◌↔◌, eqb, ltb, leb, length, get_or, take}
use Rattle.std.proofs.Math.Option.{Option}
use Rattle.laws.specs.Pick.{pick}
use Rattle.parts.specs.Setup.{within_limits, all_words}
use Rattle.parts.specs.declared.setup.Setup.{Setup}
use Rattle.defects.specs.Offence.{Found, no_offence, offence_at, first_of, number_in}
use Rattle.defects.specs.Place.{field_octets, data_fields}
use Rattle.defects.specs.Walk.{field_at, map_tests}
use Rattle.defects.specs.Decoding.{decode_offence, defects_of, map_of, DecodedMap}
use Rattle.defects.specs.Encoding.{Value, sets_for, map_octets, is_encodable}
use Rattle.defects.specs.RoundTrip.{AllFitting, tells_of}
use Rattle.defects.specs.Sectors.{field_start, sector_field, last_cylinder, read_offence, read_in, ReadMap, stored_fields}
use Rattle.defects.specs.declared.decoding.MapRead.{MapRead}
use Rattle.defects.specs.declared.offence.Offence.{Offence}

-- ---- a map put there

-- A drive within its limits with the words of all sectors, and a value that a decoding yields.
pub record CanBePut (s : Setup) (v : Value) (sectors : List ℕ) : Type 0 where
  pub limits : within_limits s ≡ true
  pub room : all_words s ≤ length sectors
  pub value : is_encodable s v ≡ true
  pub fitting : AllFitting v.defects

-- How many data fields its map has, and the sector words with the map in its place.
abbrev pub fields_for : Setup → Value → ℕ
fields_for s v = 3 * sets_for s (length v.defects)

abbrev pub with_map : Setup → Value → List ℕ → List ℕ
with_map s v sectors = stored_fields s (map_octets s v) sectors 0 (fields_for s v)

-- The word at this index is one of data field k: it stands in field 1 of its sector.
abbrev pub is_of_field : Setup → ℕ → ℕ → Bool
is_of_field s k i = leb (field_start s k) i && ltb i (field_start s k + s.field1)

-- ---- a map read off it

-- What is left of the offence of a decoding where octets may follow a map: 28, octets behind its end, is none.
abbrev pub as_read : Option Found → Option Found
as_read offence = pick (eqb (number_in offence) 28) no_offence offence

pub record OnTheCylinder : Type 0 where
  -- ---- to write is to encode
  -- There are as many sector words as before.
  pub as_many_words : (s : Setup) (v : Value) (sectors : List ℕ) → CanBePut s v sectors → length (with_map s v sectors) ≡ length sectors
  -- Each data field of the map stands in its place.
  pub each_in_its_place : (s : Setup) (v : Value) (sectors : List ℕ) → CanBePut s v sectors
      → (k : ℕ) → k < fields_for s v → sector_field s (with_map s v sectors) k ≡ field_at s (map_octets s v) k
  -- So the string of the last cylinder begins with the encoded map.
  pub write_is_encode : (s : Setup) (v : Value) (sectors : List ℕ) → CanBePut s v sectors
      → take (length (map_octets s v)) (last_cylinder s (with_map s v sectors)) ≡ map_octets s v
  -- Every word that is in none of these data fields stays as it was.
  pub others_stay : (s : Setup) (v : Value) (sectors : List ℕ) → CanBePut s v sectors
      → (i : ℕ) → ((k : ℕ) → k < fields_for s v → is_of_field s k i ≡ false) → get_or (with_map s v sectors) i 0 ≡ get_or sectors i 0
  -- ---- what was written is read
  -- What is read off is the value that was put there, whatever stands behind the map.
  pub read_after_write : (s : Setup) (v : Value) (sectors lent : List ℕ) → CanBePut s v sectors → data_fields s * field_octets s / 3 ≤ length lent
      → (read_in s (with_map s v sectors) lent ≡ Ok (tells_of v)) × (defects_of s (last_cylinder s (with_map s v sectors)) ≡ v.defects)
  -- ---- to read is to decode
  -- A string where octets may follow the map, and the same string where none may: the tests differ in 28 alone.
  pub but_for_28 : (s : Setup) (octets : List ℕ) → first_of (map_tests false s octets) ≡ as_read (first_of (map_tests true s octets))
  -- So the offence of a reading is that of a decoding of the string of the last cylinder, but for 28.
  pub read_is_decode : (s : Setup) (sectors lent : List ℕ) → within_limits s ≡ true → all_words s ≤ length sectors
      → read_offence s sectors lent ≡ as_read (decode_offence s (last_cylinder s sectors) lent)
  -- Where that decoding does not give 28, `read_map` and `decode_map` promise the same.
  pub same_promise : (s : Setup) (sectors before after : List ℕ) (r : Result MapRead Offence) → within_limits s ≡ true → all_words s ≤ length sectors
      → eqb (number_in (decode_offence s (last_cylinder s sectors) before)) 28 ≡ false
      → ReadMap s sectors before after r ↔ DecodedMap s (last_cylinder s sectors) before after r
  -- Where it does, the same string cut at the offset of that offence has none, and tells the same.
  pub cut_where_it_ends : (s : Setup) (octets lent : List ℕ) (offset : ℕ) → decode_offence s octets lent ≡ offence_at 28 offset
      → let cut = take offset octets in (decode_offence s cut lent ≡ no_offence) × (map_of s cut ≡ map_of s octets) × (defects_of s cut ≡ defects_of s octets)
  -- So to read is then to decode the string up to there.
  pub same_promise_cut : (s : Setup) (sectors before after : List ℕ) (offset : ℕ) (r : Result MapRead Offence) → within_limits s ≡ true → all_words s ≤ length sectors
      → decode_offence s (last_cylinder s sectors) before ≡ offence_at 28 offset
      → ReadMap s sectors before after r ↔ DecodedMap s (take offset (last_cylinder s sectors)) before after r
