-- "The Defect Map is written starting on the last track of the cylinder .. The map continues on tracks of decreasing address".
use Rattle.std.specs.Prelude.{ℕ, ◌-◌, ◌*◌, ◌/◌, ◌%◌, ◌≡◌, not, List, [], ◌∷◌, Result, ltb, leb}
use Rattle.laws.specs.Pick.{pick}
use Rattle.laws.specs.Rows.{Row, first, ◌when◌, refused_or}
use Rattle.parts.specs.Setup.{within_limits}
use Rattle.parts.specs.declared.setup.Setup.{Setup}
use Rattle.parts.specs.declared.setup.Place.{Place}
use Rattle.refusals.specs.Refusal.{on_paper}
use Rattle.refusals.specs.declared.refusal.Refusal.{Refusal}

-- A data field is field 1 of a sector, two octets a word.
abbrev pub field_octets : Setup → ℕ
field_octets s = 2 * s.field1

-- How many the last cylinder has: a sector each, and none where the octets in front and the CRC do not fit.
unfoldable pub data_fields : Setup → ℕ
data_fields s = pick (ltb s.field1 8) 0 (s.heads * s.sectors)

-- "Sectors shall be read in their physical order from Index": data field k, from the last track of the last cylinder down.
unfoldable pub place_of : Setup → ℕ → Place
place_of s k = record { cylinder = s.cylinders - 1; head = s.heads - 1 - k / s.sectors; sector = k % s.sectors }

-- 9, "a map's set-up" outside its limits; 16, no such data field.
abbrev pub place_rows : Setup → ℕ → List Row
place_rows s k = 9 when not (within_limits s) ∷ 16 when leb (data_fields s) k ∷ []

abbrev pub place_refusal : Setup → ℕ → ℕ
place_refusal s k = first (place_rows s k)

-- The promise of `map_place`: the number of the refusal, or the place.
pub record Placed (s : Setup) (k : ℕ) (r : Result Place Refusal) : Type 0 where
  pub answer : on_paper r ≡ refused_or (place_rows s k) (place_of s k)
