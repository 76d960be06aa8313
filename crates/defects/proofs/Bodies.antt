-- A data field of the map: made of its parts, finished as one of its copies, and as long as field 1 is.
-- Assumes nothing.
use Prim.Native.Nat.{ℕ, ◌+◌, ◌-◌, ◌*◌, ◌≤◌}
use mathlib.Core.Path.{◌≡◌, refl, sym, ap, ◌∙◌}
use mathlib.Core.List.{List, [], ◌∷◌, ◌++◌, append_assoc, append-nil}
use native.Mathlib.Omega.{arith}
use lib.ListN.{length, take, drop, set, replicate, length-append, length-take, length-drop, length-replicate, replicate-append-replicate}
use lib.Seq.{take_at, drop-length, set-set}
use Rattle.laws.specs.Lists.{written_over, written_at}
use Rattle.laws.specs.Octets.{octets_of}
use Rattle.parts.specs.declared.setup.Setup.{Setup}
use Rattle.defects.specs.Crc.{crc_of}
use Rattle.defects.specs.Defect.{list_octets}
use Rattle.defects.specs.Field.{slots}
use Rattle.defects.specs.Place.{field_octets}
use Rattle.defects.specs.Encoding.{Value, defects_of_set, front_octets, body_octets, data_field}
use Rattle.defects.specs.EncodeSteps.{finished}
use Rattle.defects.proofs.DefectOctets.{length_list}

-- ---- its parts

-- front and entries, and zeros to the end, where the CRC goes
pub padded_to_the_end : (field front entries : List ℕ) → length front ≡ 14 → 16 + length entries ≤ length field
    → let made = written_over field front in
    written_at made 14 (entries ++ replicate (length made - 14 - length entries) 0) ≡ front ++ entries ++ replicate (length field - 16 - length entries) 0 ++ (0 ∷ 0 ∷ [])
padded_to_the_end field front entries e h =
    let rest = drop (length front) field in
    let made = front ++ rest in
    let n = length entries in
    let size = length field in
    let padding : List ℕ = replicate (length made - 14 - n) 0 in
    let zeros : List ℕ = replicate (size - 16 - n) 0 in
    let long : length made ≡ size = omega (arith, length-append front rest, length-drop (length front) field) in
    let alike : padding ≡ zeros ++ (0 ∷ 0 ∷ []) =
    ap (λ (k : ℕ). replicate k 0) {x = length made - 14 - n} {y = size - 16 - n + 2} (omega arith) ∙ sym (replicate-append-replicate (size - 16 - n) 2 0) in
    let all : 14 + length (entries ++ padding) ≡ length made = omega (arith, length-append entries padding, length-replicate {A = ℕ} (length made - 14 - n) 0) in
    rw (take_at front rest 14 e, all, drop-length made, append-nil (front ++ (entries ++ padding)), alike, append_assoc (front ++ entries) zeros (0 ∷ 0 ∷ []), append_assoc front entries (zeros ++ (0 ∷ 0 ∷ [])))

-- ---- its length

module _ (s : Setup) (v : Value) (number : ℕ) where
  pub few_entries : length (defects_of_set s v number) ≤ slots (field_octets s)
  few_entries = omega (arith, length-take (slots (field_octets s)) (drop (number * slots (field_octets s)) v.defects))

  pub entries_fit : 8 ≤ s.field1 → 16 + length (list_octets (defects_of_set s v number)) ≤ field_octets s
  entries_fit h = omega (arith, length_list (defects_of_set s v number), few_entries)

  pub length_front : (copy : ℕ) → length (front_octets s v number copy) ≡ 14
  unfolding front_octets
  length_front copy = refl

  pub length_body : (copy : ℕ) → 8 ≤ s.field1 → length (body_octets s v number copy) ≡ field_octets s - 2
  unfolding body_octets front_octets
  length_body copy h =
      let entries = list_octets (defects_of_set s v number) in
      let left = field_octets s - 16 - length entries in
      omega (arith, entries_fit h, length-append entries (replicate left 0), length-replicate {A = ℕ} left 0)

  pub length_field : (copy : ℕ) → 8 ≤ s.field1 → length (data_field s v number copy) ≡ field_octets s
  unfolding data_field
  length_field copy h = let body = body_octets s v number copy in omega (arith, length-append body (octets_of 2 (crc_of body)), length_body copy h)

-- ---- the copies

-- a body with another number of its copy
pub renumbered : (s : Setup) (v : Value) (number copy other : ℕ) → set (body_octets s v number copy) 3 other ≡ body_octets s v number other
unfolding body_octets front_octets
renumbered s v number copy other = refl

-- all but the copy's number and the CRC are those of a set
abbrev pub IsOf : Setup → Value → ℕ → List ℕ → Type 0
IsOf s v number field = set (take (length field - 2) field) 3 0 ≡ body_octets s v number 0

pub body_of : (s : Setup) (v : Value) (number copy : ℕ) (end field : List ℕ) → length end ≡ 2 → field ≡ body_octets s v number copy ++ end → IsOf s v number field
body_of s v number copy end field two e =
    let body = body_octets s v number copy in
    rw (e, take_at body end (length (body ++ end) - 2) (omega (arith, length-append body end))) (renumbered s v number copy 0)

pub finished_as : (s : Setup) (v : Value) (number copy : ℕ) (field : List ℕ) → IsOf s v number field → finished copy field ≡ data_field s v number copy
unfolding finished data_field
finished_as s v number copy field e =
    let front = take (length field - 2) field in
    let body : set front 3 copy ≡ body_octets s v number copy =
    sym (set-set front 3 0 copy) ∙ ap (λ (octets : List ℕ). set octets 3 copy) e ∙ renumbered s v number 0 copy in
    rw body

pub field_of : (s : Setup) (v : Value) (number copy : ℕ) (field : List ℕ) → field ≡ data_field s v number copy → IsOf s v number field
unfolding data_field
field_of s v number copy field e = body_of s v number copy (octets_of 2 (crc_of (body_octets s v number copy))) field refl e
