-- A map encoded, in the plain spelling: no ignored data field, every set but the last full, and bit 3 exactly where an entry is out of
-- sequence.
use Rattle.std.specs.Prelude.{ℕ, zero, suc, ◌+◌, ◌-◌, ◌*◌, ◌/◌, ◌%◌, max, ◌≡◌, Bool, true, false, not, ◌&&◌, ◌||◌, List, [], ◌∷◌, ◌++◌, Result, eqb, ltb, leb, length, take, drop, replicate}
use Rattle.laws.specs.Pick.{pick}
use Rattle.laws.specs.Octets.{octets_of}
use Rattle.laws.specs.Lists.{written_over}
use Rattle.laws.specs.Rows.{Row, first, ◌when◌, unless_refused, refused_or}
use Rattle.parts.specs.Setup.{within_limits}
use Rattle.parts.specs.declared.setup.Setup.{Setup}
use Rattle.defects.specs.Crc.{crc_of}
use Rattle.defects.specs.Defect.{defect_at, list_octets, is_blank, behind, behind_all, is_out_of_sequence}
use Rattle.defects.specs.Field.{slots}
use Rattle.defects.specs.Place.{field_octets, data_fields}
use Rattle.refusals.specs.Refusal.{on_paper}
use Rattle.refusals.specs.declared.refusal.Refusal.{Refusal}
use Rattle.defects.specs.declared.defect.Defect.{Defect}

-- The value of a map: the track of Format Specification Storage, and the defects.
pub record Value : Type 0 where
  pub cylinder : ℕ
  pub head : ℕ
  pub defects : List Defect

-- The defects that so many octets list, one after another.
unfoldable pub list_from : List ℕ → ℕ → ℕ → List Defect
list_from octets at zero = []
list_from octets at (suc count) = defect_at at octets ∷ list_from octets (at + 12) count

abbrev pub defects_listed : List ℕ → List Defect
defects_listed octets = list_from octets 0 (length octets / 12)

-- ---- a set

-- How many sets so many defects take: one at least.
unfoldable pub sets_for : Setup → ℕ → ℕ
sets_for s count = let each = slots (field_octets s) in pick (eqb each 0) 1 (max 1 ((count + each - 1) / each))

-- The defects of a set, and all before it.
abbrev pub defects_of_set : Setup → Value → ℕ → List Defect
defects_of_set s v set = take (slots (field_octets s)) (drop (set * slots (field_octets s)) v.defects)

abbrev pub defects_before_set : Setup → Value → ℕ → List Defect
defects_before_set s v set = take (set * slots (field_octets s)) v.defects

-- One of the entries is out of sequence.
unfoldable pub is_unordered : ℕ → List Defect → Bool
is_unordered least [] = false
is_unordered least (d ∷ defects) = is_out_of_sequence least d || is_unordered (behind least d) defects

-- "7 Last data field of Defect Map", "3 Defect Entries in this sector out of sequence"
abbrev pub flags_for : Bool → Bool → ℕ
flags_for last unordered = pick last 128 0 + pick unordered 8 0

abbrev pub set_flags : Setup → Value → ℕ → ℕ
set_flags s v set =
    flags_for (eqb (set + 1) (sets_for s (length v.defects))) (is_unordered (behind_all 0 (defects_before_set s v set)) (defects_of_set s v set))

-- ---- a data field

-- The octets in front of the entries: count, flags, copy, number of sets, number of this set, storage track.
unfoldable pub front_octets : Setup → Value → ℕ → ℕ → List ℕ
front_octets s v set copy =
    octets_of 2 (field_octets s - 2)
    ++ (set_flags s v set ∷ copy ∷ [])
    ++ octets_of 2 (sets_for s (length v.defects))
    ++ octets_of 2 set
    ++ octets_of 4 v.cylinder
    ++ octets_of 2 v.head

-- "any remainder of less than 12 octets will be zeros": all but the CRC.
unfoldable pub body_octets : Setup → Value → ℕ → ℕ → List ℕ
body_octets s v set copy =
    let entries = list_octets (defects_of_set s v set) in
    front_octets s v set copy ++ entries ++ replicate (field_octets s - 16 - length entries) 0

unfoldable pub data_field : Setup → Value → ℕ → ℕ → List ℕ
data_field s v set copy = let body = body_octets s v set copy in body ++ octets_of 2 (crc_of body)

-- ---- the map

-- "recorded error free 3 times sequentially": so many sets from one on.
unfoldable pub sets_from : Setup → Value → ℕ → ℕ → List ℕ
sets_from s v set zero = []
sets_from s v set (suc count) = data_field s v set 0 ++ data_field s v set 1 ++ data_field s v set 2 ++ sets_from s v (suc set) count

unfoldable pub map_octets : Setup → Value → List ℕ
map_octets s v = sets_from s v 0 (sets_for s (length v.defects))

-- ---- the call

-- A defect in the drive that can be told from padding.
unfoldable pub is_listable : Setup → Defect → Bool
is_listable s d = ltb d.cylinder s.cylinders && ltb d.head s.heads && not (is_blank d)

unfoldable pub are_listable : Setup → List Defect → Bool
are_listable s [] = true
are_listable s (d ∷ defects) = is_listable s d && are_listable s defects

-- The last cylinder has data fields for the map; where they have no room for entries there are no defects.
unfoldable pub fits : Setup → ℕ → Bool
fits s count = leb (3 * sets_for s count) (data_fields s) && (ltb 0 (slots (field_octets s)) || eqb count 0)

-- A value that a decoding yields.
unfoldable pub is_encodable : Setup → Value → Bool
is_encodable s v =
    ltb v.cylinder s.cylinders && ltb v.head s.heads && are_listable s v.defects && fits s (length v.defects)

-- "what no decoding yields": octets that are not whole defects, or a value that is not encodable.
abbrev pub is_malformed : Setup → ℕ → ℕ → List ℕ → Bool
is_malformed s cylinder head defects = not (eqb (length defects % 12) 0) || not (is_encodable s (record { cylinder = cylinder; head = head; defects = defects_listed defects }))

-- How many octets the map has.
abbrev pub map_length : Setup → ℕ → ℕ
map_length s count = 3 * sets_for s count * field_octets s

-- 9, "a map's set-up" outside its limits; "all encoders [test] 10, then 8": "a lent slice too short".
abbrev pub encode_rows : Setup → ℕ → ℕ → List ℕ → ℕ → List Row
encode_rows s cylinder head defects room =
    9 when not (within_limits s)
    ∷ 10 when ltb room (map_length s (length defects / 12))
    ∷ 8 when is_malformed s cylinder head defects
    ∷ []

abbrev pub encode_refusal : Setup → ℕ → ℕ → List ℕ → ℕ → ℕ
encode_refusal s cylinder head defects room = first (encode_rows s cylinder head defects room)

-- The promise of `encode_map`: the number of the refusal, or how many octets the map has.
pub record EncodedMap (s : Setup) (cylinder head : ℕ) (defects before after : List ℕ) (r : Result ℕ Refusal) : Type 0 where
  pub answer : on_paper r ≡ refused_or (encode_rows s cylinder head defects (length before)) (map_length s (length defects / 12))
  pub slice : after ≡ unless_refused (encode_refusal s cylinder head defects (length before)) before (written_over before (map_octets s (record { cylinder = cylinder; head = head; defects = defects_listed defects })))
