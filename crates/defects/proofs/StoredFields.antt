-- Data fields put in their places: as many words as before, each data field as it was put, every other word as it was.
-- Assumes nothing.
use Prim.Native.Nat.{ℕ, zero, suc, ◌+◌, ◌<◌, ◌≤◌}
use mathlib.Core.Path.{◌≡◌, refl, sym, ap, ◌∙◌}
use mathlib.Core.Bool.{Bool, true, false}
use mathlib.Core.List.{List}
use native.Mathlib.Omega.{arith}
use borrow.Author.Tests.{eqb-true, eqb-false}
use lib.Dec.{eqb}
use lib.ListN.{length, get_or, take, drop, length-drop}
use lib.Seq.{paste, length-paste, length-take-le, get_or-take, get_or-drop, ext_get_or}
use Rattle.laws.specs.Pick.{pick}
use Rattle.laws.specs.Lists.{written_at}
use Rattle.laws.specs.Octets.{AllOctets}
use Rattle.laws.proofs.Windows.{paste_at, paste_in, as_paste}
use Rattle.parts.specs.Setup.{within_limits, all_words}
use Rattle.parts.specs.declared.setup.Setup.{Setup}
use Rattle.defects.specs.Place.{field_octets, data_fields}
use Rattle.defects.specs.Walk.{field_at}
use Rattle.defects.specs.Sectors.{word_octets, octet_words, field_start, sector_field, stored_fields}
use Rattle.defects.specs.OnTheCylinder.{is_of_field}
use Rattle.defects.proofs.Fields.{field_octets_lem}
use Rattle.defects.proofs.SectorFields.{field_in_room}
use Rattle.defects.proofs.WordOctets.{length_words, octets_of_words}
use Rattle.defects.proofs.FieldsApart.{fields_apart}

abbrev words : Setup → List ℕ → ℕ → List ℕ
words s octets k = octet_words (field_at s octets k)

abbrev put : Setup → List ℕ → List ℕ → ℕ → List ℕ
put s octets sectors k = written_at sectors (field_start s k) (words s octets k)

module _ (s : Setup) (octets : List ℕ) (many : ℕ) (small : within_limits s ≡ true) (few : many ≤ data_fields s)
    (whole : (k : ℕ) → k < many → length (field_at s octets k) ≡ field_octets s) where
  words_there : (k : ℕ) → k < many → length (words s octets k) ≡ s.field1
  words_there k h = omega (arith, length_words (field_at s octets k), whole k h)

  -- ---- one of them

  module _ (sectors : List ℕ) (room : all_words s ≤ length sectors) (k : ℕ) (h : k < many) where
    put_is : put s octets sectors k ≡ paste sectors (field_start s k) (words s octets k) s.field1
    put_is = as_paste sectors (field_start s k) (words s octets k) s.field1 (words_there k h)

    there : field_start s k + s.field1 ≤ length sectors
    there = omega (arith, room, field_in_room s k small (omega arith))

    length_put : length (put s octets sectors k) ≡ length sectors
    length_put = ap length put_is ∙ length-paste sectors (field_start s k) (words s octets k) s.field1 there (omega (arith, words_there k h))

    put_outside : (i : ℕ) → is_of_field s k i ≡ false → get_or (put s octets sectors k) i 0 ≡ get_or sectors i 0
    unfolding pick
    put_outside i out =
        ap (λ (l : List ℕ). get_or l i 0) put_is
        ∙ paste_at sectors (field_start s k) (words s octets k) s.field1 i (omega (arith, there)) (omega (arith, words_there k h))
        ∙ rw out

    put_inside : (i : ℕ) → i < s.field1 → get_or (put s octets sectors k) (field_start s k + i) 0 ≡ get_or (words s octets k) i 0
    put_inside i inside =
        ap (λ (l : List ℕ). get_or l (field_start s k + i) 0) put_is
        ∙ paste_in sectors (field_start s k) (words s octets k) s.field1 i (omega (arith, there)) (omega (arith, words_there k h)) inside

  -- ---- so many of them

  pub length_stored : (sectors : List ℕ) (k count : ℕ) → all_words s ≤ length sectors → k + count ≤ many → length (stored_fields s octets sectors k count) ≡ length sectors
  unfolding stored_fields
  length_stored sectors k zero room h = refl
  length_stored sectors k (suc count) room h =
      let same = length_put sectors room k (omega arith) in
      length_stored (put s octets sectors k) (suc k) count (omega arith) (omega arith) ∙ same

  pub stored_outside : (sectors : List ℕ) (k count i : ℕ) → all_words s ≤ length sectors → k + count ≤ many
      → ((j : ℕ) → k ≤ j → j < k + count → is_of_field s j i ≡ false) → get_or (stored_fields s octets sectors k count) i 0 ≡ get_or sectors i 0
  unfolding stored_fields
  stored_outside sectors k zero i room h out = refl
  stored_outside sectors k (suc count) i room h out =
      let same = length_put sectors room k (omega arith) in
      stored_outside (put s octets sectors k) (suc k) count i (omega arith) (omega arith) (λ j low high. out j (omega arith) (omega arith))
      ∙ put_outside sectors room k (omega arith) i (out k (omega arith) (omega arith))

  stored_inside : (sectors : List ℕ) (k count j i : ℕ) → all_words s ≤ length sectors → k + count ≤ many → k ≤ j → j < k + count → i < s.field1
      → get_or (stored_fields s octets sectors k count) (field_start s j + i) 0 ≡ get_or (words s octets j) i 0
  unfolding stored_fields
  stored_inside sectors k zero j i room h low high inside = absurd (omega arith)
  stored_inside sectors k (suc count) j i room h low high inside = by_test (eqb j k) refl (stored_inside (put s octets sectors k) (suc k) count j i)
    where
      after : List ℕ
      after = put s octets sectors k

      rest : ℕ
      rest = get_or (stored_fields s octets after (suc k) count) (field_start s j + i) 0

      as_long : all_words s ≤ length after
      as_long = omega (arith, length_put sectors room k (omega arith))

      by_test : (this : Bool) → eqb j k ≡ this
          → (all_words s ≤ length after → suc k + count ≤ many → suc k ≤ j → j < suc k + count → i < s.field1 → rest ≡ get_or (words s octets j) i 0)
          → rest ≡ get_or (words s octets j) i 0
      by_test true e below =
          let same = eqb-true j k e in
          stored_outside after (suc k) count (field_start s j + i) as_long (omega arith)
          (λ l low' high'. fields_apart s l j i small (omega arith) (omega arith) (λ p. omega arith) inside)
          ∙ rw same (put_inside sectors room k (omega arith) i inside)
      by_test false e below = let other = eqb-false j k e in below as_long (omega arith) (omega arith) (omega arith) inside

  stored_words : (sectors : List ℕ) (k : ℕ) → all_words s ≤ length sectors → k < many
      → take s.field1 (drop (field_start s k) (stored_fields s octets sectors 0 many)) ≡ words s octets k
  stored_words sectors k room h =
      let after = stored_fields s octets sectors 0 many in
      let rest = drop (field_start s k) after in
      let as_long = length_stored sectors 0 many room (omega arith) in
      let long : s.field1 ≤ length rest = simp length-drop (omega (arith, there after (omega arith) k h)) in
      let size : length (take s.field1 rest) ≡ s.field1 = length-take-le s.field1 rest long in
      ext_get_or 0 (take s.field1 rest) (words s octets k) (size ∙ sym (words_there k h))
      (λ i less. get_or-take s.field1 rest i 0 (omega arith)
      ∙ get_or-drop (field_start s k) after i 0
      ∙ stored_inside sectors 0 many k i room (omega arith) (omega arith) (omega arith) (omega arith))

  pub stored_field : (sectors : List ℕ) (k : ℕ) → all_words s ≤ length sectors → k < many → AllOctets octets
      → sector_field s (stored_fields s octets sectors 0 many) k ≡ field_at s octets k
  unfolding sector_field field_at
  stored_field sectors k room h all =
      ap word_octets (stored_words sectors k room h)
      ∙ octets_of_words (field_at s octets k) (omega (arith, whole k h)) (field_octets_lem s octets k all)
