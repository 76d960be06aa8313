-- What holds of every map that is decoded. `proofs/Decoded` proves it.
use Rattle.std.specs.Prelude.{ℕ, ◌<◌, ◌≡◌, Bool, true, List}
use Rattle.parts.specs.declared.setup.Setup.{Setup}
use Rattle.defects.specs.Offence.{no_offence, first_of}
use Rattle.defects.specs.Place.{data_fields}
use Rattle.defects.specs.Walk.{walk_at, map_tests}
use Rattle.defects.specs.Decoding.{defects_of}
use Rattle.defects.specs.Encoding.{are_listable}

-- A string of octets without an offence: a map, and nothing behind it where it is to stand alone.
abbrev pub WithoutOffence : Bool → Setup → List ℕ → Type 0
WithoutOffence alone s octets = first_of (map_tests alone s octets) ≡ no_offence

pub record Decoded : Type 0 where
  -- "A defect beyond the drive's cylinders or heads is refused": each that is told is in the drive, and none is twelve zeros.
  pub defects_inside : (alone : Bool) (s : Setup) (octets : List ℕ) → WithoutOffence alone s octets
      → are_listable s (defects_of s octets) ≡ true
  -- The track of Format Specification Storage is in the drive.
  pub storage_inside : (alone : Bool) (s : Setup) (octets : List ℕ) → WithoutOffence alone s octets
      → ((walk_at s octets (data_fields s)).cylinder < s.cylinders) × ((walk_at s octets (data_fields s)).head < s.heads)
