-- "recorded error free 3 times sequentially": the sets of a map that is decoded. `proofs/Copies` proves it.
use Rattle.std.specs.Prelude.{ℕ, ◌-◌, ◌<◌, ◌≡◌, Bool, true, false, List, get_or}
use Rattle.parts.specs.declared.setup.Setup.{Setup}
use Rattle.defects.specs.Field.{front_of, is_ignored}
use Rattle.defects.specs.Place.{field_octets, data_fields}
use Rattle.defects.specs.Walk.{is_ended, field_at, walk_at, is_original}
use Rattle.defects.specs.Decoded.{WithoutOffence}

-- Data field k is copy 1 or 2 of the set that data field `first` begins.
pub record CopyOf (s : Setup) (octets : List ℕ) (first copy k : ℕ) : Type 0 where
  -- It begins a set, of which copy 0 is due there.
  pub begins : is_original (walk_at s octets first) (field_at s octets first) ≡ true
  -- Behind it, the copy of that number of the same set is due, and the data field is not ignored.
  pub behind : first < k
  pub due : (walk_at s octets k).copy ≡ copy
  pub set : (walk_at s octets k).set ≡ (walk_at s octets first).set
  pub heard : is_ignored (field_at s octets k) ≡ false
  -- "3 Number of this sector within a set"
  pub number : get_or (field_at s octets k) 3 0 ≡ copy
  -- "Each data field in a set is identical to the other two", but for that octet and the CRC.
  pub alike : (i : ℕ) → (i ≡ 3 → ⊥) → i < field_octets s - 2 → get_or (field_at s octets k) i 0 ≡ get_or (field_at s octets first) i 0

-- Copies 0, 1 and 2 of the set that data field `first` begins, in this order.
pub record ThreeTimes (s : Setup) (octets : List ℕ) (first : ℕ) : Type 0 where
  pub number : get_or (field_at s octets first) 3 0 ≡ 0
  pub second : ℕ
  pub third : ℕ
  pub in_order : second < third
  pub inside : third < data_fields s
  pub is_second : CopyOf s octets first 1 second
  pub is_third : CopyOf s octets first 2 third

-- What a data field that begins a set tells: "4-5 Number of Sets in Defect Map", "6-7 Number of this set in the Defect Map", and the
-- track of Format Specification Storage.
pub record ToldAlike (s : Setup) (octets : List ℕ) (first : ℕ) : Type 0 where
  pub sets : (front_of (field_at s octets first)).sets ≡ (walk_at s octets (data_fields s)).sets
  pub set : (front_of (field_at s octets first)).set ≡ (walk_at s octets first).set
  pub cylinder : (front_of (field_at s octets first)).cylinder ≡ (walk_at s octets (data_fields s)).cylinder
  pub head : (front_of (field_at s octets first)).head ≡ (walk_at s octets (data_fields s)).head

pub record Copies : Type 0 where
  -- A set that begins is there three times.
  pub three_copies : (alone : Bool) (s : Setup) (octets : List ℕ) → WithoutOffence alone s octets
      → (first : ℕ) → first < data_fields s → is_original (walk_at s octets first) (field_at s octets first) ≡ true → ThreeTimes s octets first
  -- And every data field of the map that is not ignored and begins no set is a copy of one.
  pub only_copies : (alone : Bool) (s : Setup) (octets : List ℕ) → WithoutOffence alone s octets
      → (k : ℕ) → k < data_fields s → is_ended (walk_at s octets k) ≡ false → is_ignored (field_at s octets k) ≡ false
      → ((walk_at s octets k).copy ≡ 0 → ⊥) → CopyOf s octets (walk_at s octets k).original (walk_at s octets k).copy k
  -- Each set tells its own number, and the number of sets and the storage track as every other set does.
  pub told_alike : (alone : Bool) (s : Setup) (octets : List ℕ) → WithoutOffence alone s octets
      → (first : ℕ) → first < data_fields s → is_original (walk_at s octets first) (field_at s octets first) ≡ true → ToldAlike s octets first
  -- The map ends behind a whole set, and has as many as it tells.
  pub whole_sets : (alone : Bool) (s : Setup) (octets : List ℕ) → WithoutOffence alone s octets
      → ((walk_at s octets (data_fields s)).copy ≡ 0) × ((walk_at s octets (data_fields s)).set ≡ (walk_at s octets (data_fields s)).sets)
