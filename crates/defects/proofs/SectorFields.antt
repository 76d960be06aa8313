-- The data fields of the last cylinder in a drive's sector words: each lies within the words, and stands in its turn in the string that they make.
-- Assumes nothing.
use Prim.Native.Nat.{ℕ, zero, suc, ◌+◌, ◌*◌, ◌<◌, ◌≤◌}
use mathlib.Core.Path.{◌≡◌, sym, ap, ◌∙◌}
use mathlib.Core.Bool.{true, or-false}
use mathlib.Core.List.{List, ◌++◌}
use native.Mathlib.Nat.{zero-mul, suc-mul, add-zero, zero-add}
use native.Mathlib.Omega.{arith}
use borrow.Author.Tests.{le-ltb}
use lib.Dec.{ltb}
use lib.ListN.{length, take, drop, length-append, length-drop}
use lib.Seq.{length-take-le, take_at, drop_at, drop-drop}
use Rattle.parts.specs.Setup.{within_limits, lacks_room, sector_words, all_words}
use Rattle.parts.specs.declared.setup.Setup.{Setup}
use Rattle.parts.proofs.Bounds.{inside, sector_in_room}
use Rattle.defects.specs.Place.{field_octets, data_fields, place_of}
use Rattle.defects.specs.Walk.{field_at}
use Rattle.defects.specs.Sectors.{field_start, sector_field, sector_fields, last_cylinder}
use Rattle.defects.proofs.WordOctets.{length_word_octets}
use Rattle.defects.proofs.Places.{places}

-- of a drive within its limits only the sector words can be too few, where one sector is lent besides
pub lacks_words : (s : Setup) (count words : ℕ) → within_limits s ≡ true → words ≡ sector_words s → lacks_room s count words ≡ ltb count (all_words s)
unfolding lacks_room
lacks_words s count words small e = rw (small, e, le-ltb (sector_words s) (sector_words s) (omega arith)) (or-false (ltb count (all_words s)))

-- field 1 of a data field's sector lies within the words of all sectors
pub field_in_room : (s : Setup) (k : ℕ) → within_limits s ≡ true → k < data_fields s → field_start s k + s.field1 ≤ all_words s
unfolding field_start
field_in_room s k small h = omega (arith, sector_in_room s (place_of s k) (inside s (place_of s k) (places.inside s k small h)))

module _ (s : Setup) (sectors : List ℕ) (small : within_limits s ≡ true) (room : all_words s ≤ length sectors) where
  length_field : (k : ℕ) → k < data_fields s → length (sector_field s sectors k) ≡ field_octets s
  unfolding sector_field
  length_field k h =
      let words = take s.field1 (drop (field_start s k) sectors) in
      let many : length words ≡ s.field1 = length-take-le s.field1 (drop (field_start s k) sectors) (simp length-drop (omega (arith, field_in_room s k small h))) in
      length_word_octets words ∙ rw many

  length_fields : (k count : ℕ) → k + count ≤ data_fields s → length (sector_fields s sectors k count) ≡ count * field_octets s
  unfolding sector_fields
  length_fields k zero h = sym (zero-mul (field_octets s))
  length_fields k (suc count) h =
      length-append (sector_field s sectors k) (sector_fields s sectors (suc k) count)
      ∙ omega (arith, length_field k (omega arith), length_fields (suc k) count (omega arith), suc-mul count (field_octets s))

  -- data field i of those from k on
  field_of : (k count i : ℕ) → k + count ≤ data_fields s → i < count
      → take (field_octets s) (drop (i * field_octets s) (sector_fields s sectors k count)) ≡ sector_field s sectors (k + i)
  unfolding sector_fields
  field_of k zero i h less = absurd (omega arith)
  field_of k (suc count) zero h less =
      rw (zero-mul, add-zero) (take_at (sector_field s sectors k) (sector_fields s sectors (suc k) count) (field_octets s) (length_field k (omega arith)))
  field_of k (suc count) (suc i) h less =
      let one = sector_field s sectors k in
      let rest = sector_fields s sectors (suc k) count in
      let far : suc i * field_octets s ≡ field_octets s + i * field_octets s = omega (arith, suc-mul i (field_octets s)) in
      let next : k + suc i ≡ suc k + i = omega arith in
      let past : drop (suc i * field_octets s) (one ++ rest) ≡ drop (i * field_octets s) rest =
      rw (far, ← (drop-drop (i * field_octets s) (field_octets s) (one ++ rest)), drop_at one rest (field_octets s) (length_field k (omega arith))) in
      rw (past, next) (field_of (suc k) count i (omega arith) (omega arith))

  pub field_of_cylinder : (k : ℕ) → k < data_fields s → field_at s (last_cylinder s sectors) k ≡ sector_field s sectors k
  unfolding field_at
  field_of_cylinder k h = field_of 0 (data_fields s) k (omega arith) h ∙ ap (sector_field s sectors) (zero-add k)

  pub length_cylinder : length (last_cylinder s sectors) ≡ data_fields s * field_octets s
  length_cylinder = length_fields 0 (data_fields s) (omega arith)
