-- "The Defect Map is written starting on the last track of the cylinder .. The map continues on tracks of decreasing address": where the
-- data fields of a map are, one after another. `proofs/Places` proves it.
use Rattle.std.specs.Prelude.{ℕ, ◌+◌, ◌-◌, ◌<◌, ◌≡◌, true}
use Rattle.parts.specs.Setup.{within_limits, is_place}
use Rattle.parts.specs.declared.setup.Setup.{Setup}
use Rattle.parts.specs.declared.setup.Place.{Place}
use Rattle.defects.specs.Place.{data_fields, place_of}

-- Of two places the second follows the first.
pub data Follows (s : Setup) (p q : Place) : Type 0 where
  -- "Sectors shall be read in their physical order from Index."
  next_sector : q.head ≡ p.head → q.sector ≡ p.sector + 1 → Follows s p q
  -- "The map continues on tracks of decreasing address": behind the last sector, at the first one of the track below.
  next_track : p.sector + 1 ≡ s.sectors → q.sector ≡ 0 → p.head ≡ q.head + 1 → Follows s p q

pub record Places : Type 0 where
  -- Each data field is in the drive.
  pub inside : (s : Setup) (k : ℕ) → within_limits s ≡ true → k < data_fields s → is_place s (place_of s k) ≡ true
  -- "written on the last cylinder"
  pub last_cylinder_lem : (s : Setup) (k : ℕ) → within_limits s ≡ true → k < data_fields s → (place_of s k).cylinder ≡ s.cylinders - 1
  -- No place has two data fields.
  pub distinct : (s : Setup) (j k : ℕ) → within_limits s ≡ true → j < data_fields s → k < data_fields s → place_of s j ≡ place_of s k → j ≡ k
  -- "starting on the last track of the cylinder", and there "from Index"
  pub starts : (s : Setup) → within_limits s ≡ true → 0 < data_fields s → ((place_of s 0).head ≡ s.heads - 1) × ((place_of s 0).sector ≡ 0)
  -- From each data field to the next, sector by sector and track by track.
  pub in_order : (s : Setup) (k : ℕ) → within_limits s ≡ true → k + 1 < data_fields s → Follows s (place_of s k) (place_of s (k + 1))
