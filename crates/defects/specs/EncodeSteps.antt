-- What the private functions of the encoder ask and promise.
use Rattle.std.specs.Prelude.{ℕ, zero, suc, ◌+◌, ◌-◌, ◌*◌, ◌/◌, ◌<◌, ◌≤◌, ◌^◌, min, ◌≡◌, true, List, [], ◌∷◌, ◌++◌, length, take, set}
use Rattle.laws.specs.Lists.{written_at}
use Rattle.laws.specs.Octets.{octets_of}
use Rattle.parts.specs.Setup.{within_limits, all_words}
use Rattle.parts.specs.declared.setup.Setup.{Setup}
use Rattle.defects.specs.Crc.{crc_of}
use Rattle.defects.specs.Defect.{behind_all}
use Rattle.defects.specs.Field.{slots}
use Rattle.defects.specs.Place.{field_octets, data_fields}
use Rattle.defects.specs.Encoding.{Value, defects_listed, sets_for, defects_before_set, is_unordered, body_octets, is_encodable}
use Rattle.defects.specs.Walk.{field_at}
use Rattle.defects.specs.declared.body.Job.{Job}
use Rattle.defects.specs.declared.body.Order.{Order}
use Rattle.defects.specs.declared.body.Run.{Run}
use Rattle.defects.specs.declared.defect.Defect.{Defect}
use Rattle.defects.specs.declared.front.Front.{Front}

-- ---- a map that can be encoded

-- Its value: the storage track of the job, and the defects that the octets list.
abbrev pub value_in : Job → List ℕ → Value
value_in job octets = record { cylinder = job.cylinder; head = job.head; defects = defects_listed octets }

pub record Planned (s : Setup) (job : Job) (octets : List ℕ) : Type 0 where
  pub limits : within_limits s ≡ true
  pub encodable : is_encodable s (value_in job octets) ≡ true
  pub sets : job.sets ≡ sets_for s (length octets / 12)

-- One of its sets, and the least address that is higher than all before it.
pub record Due (s : Setup) (job : Job) (octets : List ℕ) (set least : ℕ) : Type 0 where
  pub planned : Planned s job octets
  pub within : set < job.sets
  pub above : least ≡ behind_all 0 (defects_before_set s (value_in job octets) set)

-- ---- the defects of a set

-- Where their octets start, and how many defects they are.
pub record RunOf (s : Setup) (set size : ℕ) (r : Run) : Type 0 where
  pub at : r.at ≡ 12 * (set * slots (field_octets s))
  pub count : r.count ≡ min (slots (field_octets s)) (size / 12 - set * slots (field_octets s))

-- Their cylinders are those of a drive, so their addresses fit 63 bits.
abbrev pub AllNear : List Defect → Type 0
AllNear [] = Unit
AllNear (d ∷ defects) = (d.cylinder < 2 ^ 15) × AllNear defects

pub record Ordered (least : ℕ) (defects : List Defect) (r : Order) : Type 0 where
  pub unordered : r.unordered ≡ is_unordered least defects
  pub next : r.least ≡ behind_all least defects

-- ---- a data field

-- The octets in front of the entries.
unfoldable pub octets_in_front : Front → List ℕ
octets_in_front front =
    octets_of 2 front.count
    ++ (front.flags ∷ front.copy ∷ [])
    ++ octets_of 2 front.sets
    ++ octets_of 2 front.set
    ++ octets_of 4 front.cylinder
    ++ octets_of 2 front.head

-- Copy 0 of a set, but for its CRC; and the least address that is higher than all up to its last defect.
pub record Filled (s : Setup) (job : Job) (octets : List ℕ) (set : ℕ) (field : List ℕ) (r : ℕ) : Type 0 where
  pub body : field ≡ body_octets s (value_in job octets) set 0 ++ (0 ∷ 0 ∷ [])
  pub next : r ≡ behind_all 0 (defects_before_set s (value_in job octets) (set + 1))

-- The data field as one of the copies, with its CRC.
unfoldable pub finished : ℕ → List ℕ → List ℕ
finished copy field = let body = set (take (length field - 2) field) 3 copy in body ++ octets_of 2 (crc_of body)

-- ---- data fields put into their places

-- Where data field k begins in the octets of a map; in the sector words `field_start` says it.
abbrev pub octet_start : Setup → ℕ → ℕ
octet_start s k = k * field_octets s

-- So many octets have its place.
pub record HasOctets (s : Setup) (k room : ℕ) : Type 0 where
  pub whole : k * field_octets s + field_octets s ≤ room

-- So many sector words have it.
pub record HasSectors (s : Setup) (k room : ℕ) : Type 0 where
  pub limits : within_limits s ≡ true
  pub inside : k < data_fields s
  pub words : all_words s ≤ room

-- So many data fields of a map in their places, from data field k on.
unfoldable pub put_fields : {A : Type 0} → (Setup → ℕ → ℕ) → (List ℕ → List A) → Setup → List ℕ → List A → ℕ → ℕ → List A
put_fields start units s map out k zero = out
put_fields start units s map out k (suc count) = put_fields start units s map (written_at out (start s k) (units (field_at s map k))) (suc k) count
