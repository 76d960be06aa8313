-- Which word of the sector word k of a read is: the parts that pass lie one behind the other.
-- Assumes nothing.
use Prim.Native.Nat.{ℕ, ◌+◌, ◌-◌, ◌≤◌, ◌<◌}
use mathlib.Core.Path.{◌≡◌, refl, ap, ◌∙◌}
use mathlib.Core.Bool.{Bool, true, false}
use mathlib.Core.List.{List, [], ◌++◌}
use native.Mathlib.Nat.{zero-add}
use native.Mathlib.Omega.{arith}
use borrow.Author.Tests.{ltb-true, ltb-false}
use lib.Dec.{ltb}
use lib.ListN.{length, get_or, take, drop, length-take, length-drop, length-append, get_or-append}
use lib.Seq.{get_or-take, get_or-drop, get_or-append-add}
use Rattle.laws.specs.Pick.{pick}
use Rattle.laws.proofs.Pick.{pick_le}
use Rattle.parts.specs.Setup.{sector_words, sector_start, sector_at}
use Rattle.parts.specs.Control.{header_passes, names_field1, names_field2, part, data_words, words_read}
use Rattle.drive.specs.Able.{ReadsAt}
use Rattle.parts.specs.declared.setup.Setup.{Setup}
use Rattle.parts.specs.declared.setup.Place.{Place}

-- a part of the sector that passes or not
passing : Bool → ℕ → ℕ → List ℕ → List ℕ
passing passes n from sector = pick passes (take n (drop from sector)) []

passing_length : (passes : Bool) (n from : ℕ) (sector : List ℕ) → from + n ≤ length sector → length (passing passes n from sector) ≡ part passes n
unfolding passing pick
passing_length true n from sector h = simp (length-take, length-drop) (omega arith)
passing_length false n from sector h = refl

passing_at : (passes : Bool) (n from : ℕ) (sector : List ℕ) (k : ℕ) → k < part passes n → get_or (passing passes n from sector) k 0 ≡ get_or sector (from + k) 0
unfolding passing pick
passing_at true n from sector k h = get_or-take n (drop from sector) k 0 h ∙ get_or-drop from sector k 0
passing_at false n from sector k h = absurd (omega arith)

module _ (s : Setup) (c : ℕ) (sector : List ℕ) (l : length sector ≡ sector_words s) where
  header : List ℕ
  header = passing (header_passes c) s.header 0 sector

  field1 : List ℕ
  field1 = passing (names_field1 c) s.field1 s.header sector

  field2 : List ℕ
  field2 = passing (names_field2 c) s.field2 (s.header + s.field1) sector

  all_parts : words_read s c sector ≡ header ++ field1 ++ field2
  unfolding words_read header field1 field2 passing
  all_parts = refl

  header_length : length header ≡ part (header_passes c) s.header
  unfolding header
  header_length = passing_length (header_passes c) s.header 0 sector (omega arith)

  field1_length : length field1 ≡ part (names_field1 c) s.field1
  unfolding field1
  field1_length = passing_length (names_field1 c) s.field1 s.header sector (omega arith)

  -- the three parts, read
  pub read_header : (k : ℕ) → k < part (header_passes c) s.header → get_or (words_read s c sector) k 0 ≡ get_or sector k 0
  unfolding header
  read_header k h =
      let a : k < length header = omega (arith, header_length) in
      let b : k < length (header ++ field1) = omega (arith, length-append header field1) in
      rw (all_parts, get_or-append (header ++ field1) field2 0 k b, get_or-append header field1 0 k a)
      (passing_at (header_passes c) s.header 0 sector k h ∙ rw zero-add)

  pub read_field1 : (j : ℕ) → j < part (names_field1 c) s.field1
      → get_or (words_read s c sector) (part (header_passes c) s.header + j) 0 ≡ get_or sector (s.header + j) 0
  unfolding field1
  read_field1 j h =
      let b : length header + j < length (header ++ field1) = omega (arith, length-append header field1, field1_length) in
      rw (← header_length, all_parts, get_or-append (header ++ field1) field2 0 (length header + j) b, get_or-append-add header field1 j 0)
      (passing_at (names_field1 c) s.field1 s.header sector j h)

  pub read_field2 : (j : ℕ) → j < part (names_field2 c) s.field2
      → get_or (words_read s c sector) (part (header_passes c) s.header + part (names_field1 c) s.field1 + j) 0 ≡ get_or sector (s.header + s.field1 + j) 0
  unfolding field2
  read_field2 j h =
      rw (← header_length, ← field1_length, ← (length-append header field1), all_parts, get_or-append-add (header ++ field1) field2 j 0)
      (passing_at (names_field2 c) s.field2 (s.header + s.field1) sector j h)

-- ---- the offset of word k

pub at_header : (s : Setup) (c k : ℕ) → k < part (header_passes c) s.header → ReadsAt s c k k
at_header s c k h =
    record { inside = omega (arith, pick_le (header_passes c) s.header); reads = λ sector l. read_header s c sector l k h }

pub at_field1 : (s : Setup) (c k : ℕ) → part (header_passes c) s.header ≤ k → k < part (header_passes c) s.header + part (names_field1 c) s.field1
    → ReadsAt s c k (k - part (header_passes c) s.header + s.header)
at_field1 s c k g h =
    let j = k - part (header_passes c) s.header in
    record {
      inside = omega (arith, pick_le (names_field1 c) s.field1);
      reads = λ sector l.
          ap (λ (i : ℕ). get_or (words_read s c sector) i 0) (omega arith)
          ∙ read_field1 s c sector l j (omega arith)
          ∙ ap (λ (i : ℕ). get_or sector i 0) (omega arith);
    }

pub at_field2 : (s : Setup) (c k : ℕ) → part (header_passes c) s.header + part (names_field1 c) s.field1 ≤ k → k < data_words s c
    → ReadsAt s c k (k - part (header_passes c) s.header - part (names_field1 c) s.field1 + s.header + s.field1)
unfolding data_words
at_field2 s c k g h =
    let j = k - part (header_passes c) s.header - part (names_field1 c) s.field1 in
    record {
      inside = omega (arith, pick_le (names_field2 c) s.field2);
      reads = λ sector l.
          ap (λ (i : ℕ). get_or (words_read s c sector) i 0) (omega arith)
          ∙ read_field2 s c sector l j (omega arith)
          ∙ ap (λ (i : ℕ). get_or sector i 0) (omega arith);
    }

whole_part : (named : Bool) (n : ℕ) → 0 < part named n → part named n ≡ n
unfolding pick
whole_part true n p = refl
whole_part false n p = absurd (omega arith)

-- what does not pass is left out before a word of the fields
pub at_fields : (s : Setup) (c k : ℕ) → part (header_passes c) s.header ≤ k → k < data_words s c
    → ReadsAt s c k (k + s.header + s.field1 - part (header_passes c) s.header - part (names_field1 c) s.field1)
at_fields s c k g h = by_field (ltb k (part (header_passes c) s.header + part (names_field1 c) s.field1)) refl
  where
    by_field : (b : Bool) → ltb k (part (header_passes c) s.header + part (names_field1 c) s.field1) ≡ b
        → ReadsAt s c k (k + s.header + s.field1 - part (header_passes c) s.header - part (names_field1 c) s.field1)
    by_field true p =
        let l = ltb-true k (part (header_passes c) s.header + part (names_field1 c) s.field1) p in
        let w = whole_part (names_field1 c) s.field1 (omega arith) in
        let e : k + s.header + s.field1 - part (header_passes c) s.header - part (names_field1 c) s.field1 ≡ k - part (header_passes c) s.header + s.header
        = omega arith in
        rw e (at_field1 s c k g l)
    by_field false p =
        let l = ltb-false k (part (header_passes c) s.header + part (names_field1 c) s.field1) p in
        let e : k + s.header + s.field1 - part (header_passes c) s.header - part (names_field1 c) s.field1
        ≡ k - part (header_passes c) s.header - part (names_field1 c) s.field1 + s.header + s.field1
        = omega arith in
        rw e (at_field2 s c k l h)

-- the same, in the lent words
pub read_in_place : (s : Setup) (p : Place) (c k offset : ℕ) (sectors : List ℕ) → sector_start s p + sector_words s ≤ length sectors → ReadsAt s c k offset
    → get_or (words_read s c (sector_at s p sectors)) k 0 ≡ get_or sectors (sector_start s p + offset) 0
read_in_place s p c k offset sectors h r =
    r.reads (sector_at s p sectors) (simp (length-take, length-drop) (omega arith))
    ∙ get_or-take (sector_words s) (drop (sector_start s p) sectors) offset 0 r.inside
    ∙ get_or-drop (sector_start s p) sectors offset 0
