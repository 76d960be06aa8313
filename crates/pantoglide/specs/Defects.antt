-- `pg_decode_defect` to `pg_write_map`: the maker's defect map on numbers and lent slices.
use Rattle.std.specs.Prelude.{ℕ, ◌*◌, ◌/◌, ◌≡◌, List, length}
use Rattle.std.proofs.Math.Option.{Option}
use Rattle.laws.specs.Rows.{unless_refused}
use Rattle.laws.specs.Lists.{written_over}
use Rattle.parts.specs.declared.setup.Setup.{Setup}
use Rattle.defects.specs.Offence.{Found, number_in, offset_in}
use Rattle.defects.specs.Defect.{defect_at, defect_octets, list_octets, defect_refusal}
use Rattle.defects.specs.Place.{data_fields, place_of, place_refusal}
use Rattle.defects.specs.Walk.{walk_at}
use Rattle.defects.specs.Decoding.{defects_of, decode_offence}
use Rattle.defects.specs.Encoding.{Value, defects_listed, sets_for, map_octets, map_length, encode_refusal}
use Rattle.defects.specs.Sectors.{last_cylinder, read_offence, stored_fields, write_refusal}

-- The value of a map: the track of Format Specification Storage, and the defects that the octets list.
abbrev pub value_of : ℕ → ℕ → List ℕ → Value
value_of cylinder head defects = record { cylinder = cylinder; head = head; defects = defects_listed defects }

-- The promise of `pg_decode_defect`: 10, or the four numbers of the defect.
pub record DefectTold (octets : List ℕ) (cylinder₀ head₀ offset₀ length₀ r cylinder₁ head₁ offset₁ length₁ : ℕ) : Type 0 where
  pub refusal : r ≡ defect_refusal octets
  pub cylinder : cylinder₁ ≡ unless_refused r cylinder₀ (defect_at 0 octets).cylinder
  pub head : head₁ ≡ unless_refused r head₀ (defect_at 0 octets).head
  pub offset : offset₁ ≡ unless_refused r offset₀ (defect_at 0 octets).offset
  pub length : length₁ ≡ unless_refused r length₀ (defect_at 0 octets).length

-- The promise of `pg_encode_defect`: 10, or the 12 octets of the defect at the front.
pub record DefectMade (cylinder head offset length : ℕ) (octets₀ : List ℕ) (r : ℕ) (octets₁ : List ℕ) : Type 0 where
  pub refusal : r ≡ defect_refusal octets₀
  pub octets : octets₁
      ≡ unless_refused r octets₀ (written_over octets₀ (defect_octets (record { cylinder = cylinder; head = head; offset = offset; length = length })))

-- The promise of `pg_map_place`: 9, then 16; or the place of data field k.
pub record PlaceTold (s : Setup) (k cylinder₀ head₀ sector₀ r cylinder₁ head₁ sector₁ : ℕ) : Type 0 where
  pub refusal : r ≡ place_refusal s k
  pub cylinder : cylinder₁ ≡ unless_refused r cylinder₀ (place_of s k).cylinder
  pub head : head₁ ≡ unless_refused r head₀ (place_of s k).head
  pub sector : sector₁ ≡ unless_refused r sector₀ (place_of s k).sector

-- Of a map at these octets: its first offence and where it lies; or the defects at the front, how many they are, and the storage track.
pub record MapAnswered (s : Setup) (octets : List ℕ) (offence : Option Found) (defects₀ : List ℕ) (count₀ cylinder₀ head₀ offset₀ r : ℕ) (defects₁ : List ℕ) (count₁ cylinder₁ head₁ offset₁ : ℕ) : Type 0 where
  pub refusal : r ≡ number_in offence
  pub defects : defects₁ ≡ unless_refused r defects₀ (written_over defects₀ (list_octets (defects_of s octets)))
  pub count : count₁ ≡ unless_refused r count₀ (length (defects_of s octets))
  pub cylinder : cylinder₁ ≡ unless_refused r cylinder₀ (walk_at s octets (data_fields s)).cylinder
  pub head : head₁ ≡ unless_refused r head₀ (walk_at s octets (data_fields s)).head
  pub offset : offset₁ ≡ unless_refused r (offset_in offence) offset₀

-- The promise of `pg_decode_map`.
abbrev pub MapTold : Setup → List ℕ → List ℕ → ℕ → ℕ → ℕ → ℕ → ℕ → List ℕ → ℕ → ℕ → ℕ → ℕ → Type 0
MapTold s octets defects₀ = MapAnswered s octets (decode_offence s octets defects₀) defects₀

-- The promise of `pg_read_map`: as `pg_decode_map`, "read off the last cylinder".
abbrev pub MapReadOff : Setup → List ℕ → List ℕ → ℕ → ℕ → ℕ → ℕ → ℕ → List ℕ → ℕ → ℕ → ℕ → ℕ → Type 0
MapReadOff s sectors defects₀ = MapAnswered s (last_cylinder s sectors) (read_offence s sectors defects₀) defects₀

-- The promise of `pg_encode_map`: "all encoders 10, then 8", behind 9; or the map at the front of `out`, and how many octets it has.
pub record MapMade (s : Setup) (cylinder head : ℕ) (defects out₀ : List ℕ) (size₀ r : ℕ) (out₁ : List ℕ) (size₁ : ℕ) : Type 0 where
  pub refusal : r ≡ encode_refusal s cylinder head defects (length out₀)
  pub out : out₁ ≡ unless_refused r out₀ (written_over out₀ (map_octets s (value_of cylinder head defects)))
  pub size : size₁ ≡ unless_refused r size₀ (map_length s (length defects / 12))

-- The promise of `pg_write_map`: 9, 10, then 8; or the map's data fields in their places, all other words as they were.
pub record MapPut (s : Setup) (cylinder head : ℕ) (defects sectors₀ : List ℕ) (r : ℕ) (sectors₁ : List ℕ) : Type 0 where
  pub refusal : r ≡ write_refusal s cylinder head defects sectors₀
  pub sectors : sectors₁
      ≡ unless_refused r sectors₀
      (stored_fields s (map_octets s (value_of cylinder head defects)) sectors₀ 0 (3 * sets_for s (length defects / 12)))
