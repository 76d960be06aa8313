-- A decoded map in the plain spelling is what its value encodes to.
-- Assumes nothing.
use Prim.Native.Nat.{ℕ, zero, suc, ◌+◌, ◌-◌, ◌*◌, ◌/◌, ◌%◌, ◌<◌, ◌≤◌}
use mathlib.Core.Path.{◌≡◌, refl, sym, ap, ap₂, ◌∙◌}
use mathlib.Core.Bool.{Bool, true, false}
use mathlib.Core.List.{List, [], ◌++◌, append_assoc, append-nil}
use native.Mathlib.Nat.{add-zero, le_refl}
use native.Mathlib.Omega.{arith}
use borrow.Author.Tests.{eq-eqb, ne_eqb, eqb-true, eqb-false, ltb-false}
use lib.Dec.{eqb}
use lib.ListN.{length, take, length-append}
use lib.Seq.{take_all, take_at, drop_at}
use Rattle.laws.specs.Pick.{pick}
use Rattle.laws.specs.Octets.{AllOctets}
use Rattle.parts.specs.declared.setup.Setup.{Setup}
use Rattle.defects.specs.Offence.{no_offence, first_of}
use Rattle.defects.specs.Defect.{behind_all}
use Rattle.defects.specs.Field.{front_of, is_ignored, slots, defects_in}
use Rattle.defects.specs.Place.{field_octets, data_fields}
use Rattle.defects.specs.Walk.{field_at, walk_at, defects_before, map_tests}
use Rattle.defects.specs.Decoding.{defects_of}
use Rattle.defects.specs.Encoding.{sets_for, defects_of_set, defects_before_set, is_unordered, data_field, map_octets}
use Rattle.defects.specs.Plain.{value_of, PlainSet, Plain}
use Rattle.defects.specs.declared.defect.Defect.{Defect}
use Rattle.defects.proofs.WalkSteps.{begins_set, going_on_lem, listed_on, defects_stay}
use Rattle.defects.proofs.Thirds.{few_in_field, counted}
use Rattle.defects.proofs.Fields.{some_field, field_octets_lem, same_beginning}
use Rattle.defects.proofs.SetsFor.{sets_exact}
use Rattle.defects.proofs.Accepted.{Whole, length_field, whole, nothing_behind, original_at, copy_at}
use Rattle.defects.proofs.Copies.{copies}
use Rattle.defects.proofs.Decoded.{stored_at_end}
use Rattle.defects.proofs.EncodedField.{front_for}
use Rattle.defects.proofs.EncodedMap.{length-map, map_alone}
use Rattle.defects.proofs.PlainField.{flags_are, original_is, copy_is}
use Rattle.defects.proofs.PlainSets.{There, set_there, last_at, at_end, listed_next}

-- ---- the defects of each set

module _ (s : Setup) (octets : List ℕ) (accepted : first_of (map_tests true s octets) ≡ no_offence) (plain : Plain s octets) where
  the_set : (i : ℕ) → i < (walk_at s octets (data_fields s)).set → There s octets i
  the_set = set_there true s octets accepted plain.none_ignored

  plain_set : (i : ℕ) → i < (walk_at s octets (data_fields s)).set → PlainSet s octets (3 * i)
  plain_set i h = let t = the_set i h in plain.sets (3 * i) (omega (arith, t.inside)) t.begins

  is_full : (i : ℕ) → suc i < (walk_at s octets (data_fields s)).set → length (defects_in (field_at s octets (3 * i))) ≡ slots (field_octets s)
  is_full i h = (plain_set i (omega arith)).full (last_at true s octets accepted plain.none_ignored i (omega arith) ∙ ne_eqb (i + 1) _ (λ (e : i + 1 ≡ (walk_at s octets (data_fields s)).set). omega arith))

  listed_length : (i : ℕ) → i < (walk_at s octets (data_fields s)).set → length (defects_before s octets (3 * i)) ≡ i * slots (field_octets s)
  unfolding defects_before
  listed_length zero h = omega arith
  listed_length (suc i) h =
      let next = listed_next true s octets accepted plain.none_ignored i (omega arith) in
      ap length next ∙ length-append (defects_before s octets (3 * i)) (defects_in (field_at s octets (3 * i))) ∙ omega (arith, listed_length i (omega arith), is_full i h)

  the_field : (i : ℕ) → i < (walk_at s octets (data_fields s)).set → Whole s octets (3 * i)
  the_field i h =
      let t = the_set i h in
      whole true s octets accepted (3 * i) (omega (arith, t.inside)) (begins_set (walk_at s octets (3 * i)) (field_at s octets (3 * i)) t.begins).0

  to_end : (i : ℕ) → i ≤ (walk_at s octets (data_fields s)).set → 3 * i + (data_fields s - 3 * i) ≡ data_fields s
  to_end i h = omega (arith, (counted s octets (data_fields s)).fields)

  -- those behind the last set are none
  all_listed : (i : ℕ) → suc i ≡ (walk_at s octets (data_fields s)).set → defects_of s octets ≡ defects_before s octets (3 * i) ++ defects_in (field_at s octets (3 * i))
  all_listed i e =
      let same = defects_stay s octets (3 * suc i) (data_fields s - 3 * suc i) (at_end true s octets accepted plain.none_ignored i e) in
      (rw (to_end (suc i) (omega arith)) at same) ∙ listed_next true s octets accepted plain.none_ignored i (omega arith)

  -- the defects of set i, and those behind it
  rest_of : (i : ℕ) → i < (walk_at s octets (data_fields s)).set
      → let these = defects_in (field_at s octets (3 * i)) in
      (rest : List Defect) × (defects_of s octets ≡ defects_before s octets (3 * i) ++ (these ++ rest)) × (take (slots (field_octets s)) (these ++ rest) ≡ these)
  rest_of i h = by_last (eqb (suc i) (walk_at s octets (data_fields s)).set) refl
    where
      these : List Defect
      these = defects_in (field_at s octets (3 * i))

      by_last : (last : Bool) → eqb (suc i) (walk_at s octets (data_fields s)).set ≡ last
          → (rest : List Defect) × (defects_of s octets ≡ defects_before s octets (3 * i) ++ (these ++ rest)) × (take (slots (field_octets s)) (these ++ rest) ≡ these)
      by_last true e = ([], rw (append-nil these) (all_listed i (eqb-true _ _ e)), rw (append-nil these) (take_all _ these (few_in_field s octets (3 * i))))
      by_last false e =
          let more : suc i < (walk_at s octets (data_fields s)).set = omega (arith, eqb-false (suc i) (walk_at s octets (data_fields s)).set e) in
          let (rest, on) = listed_on s octets (3 * suc i) (data_fields s - 3 * suc i) in
          let next = listed_next true s octets accepted plain.none_ignored i h in (
            rest,
            (rw (to_end (suc i) (omega arith)) at on)
                ∙ ap (λ (defects : List Defect). defects ++ rest) next
                ∙ append_assoc (defects_before s octets (3 * i)) these rest,
            take_at these rest (slots (field_octets s)) (is_full i more),
          )

  defects_before_lem : (i : ℕ) → i < (walk_at s octets (data_fields s)).set → defects_before_set s (value_of s octets) i ≡ defects_before s octets (3 * i)
  defects_before_lem i h =
      let (rest, all, this) = rest_of i h in
      rw all (take_at (defects_before s octets (3 * i)) _ (i * slots (field_octets s)) (listed_length i h))

  defects_of_lem : (i : ℕ) → i < (walk_at s octets (data_fields s)).set → defects_of_set s (value_of s octets) i ≡ defects_in (field_at s octets (3 * i))
  defects_of_lem i h =
      let (rest, all, this) = rest_of i h in
      rw (all, drop_at (defects_before s octets (3 * i)) (defects_in (field_at s octets (3 * i)) ++ rest) (i * slots (field_octets s)) (listed_length i h)) this

  some_set : 0 < (walk_at s octets (data_fields s)).set
  some_set = omega (arith, (stored_at_end true s octets accepted).sets, (copies.whole_sets true s octets accepted).1)

  -- as many sets as the value takes
  sets_told : sets_for s (length (defects_of s octets)) ≡ (walk_at s octets (data_fields s)).set
  sets_told =
      let n = (walk_at s octets (data_fields s)).set in
      let i = n - 1 in
      let last : suc i ≡ n = omega (arith, some_set) in
      let these = defects_in (field_at s octets (3 * i)) in
      let count = ap length (all_listed i last) ∙ length-append (defects_before s octets (3 * i)) these ∙ ap (λ (k : ℕ). k + length these) (listed_length i (omega arith)) in
      let is_last = last_at true s octets accepted plain.none_ignored i (omega arith) ∙ eq-eqb (i + 1) n (omega arith) in
      sets_exact s (length (defects_of s octets)) i (length these) count (few_in_field s octets (3 * i))
      (λ more. (plain_set i (omega arith)).some_entry is_last (omega (arith, (the_set i (omega arith)).set)))
      ∙ last

  -- ---- the data fields

  module _ (all : AllOctets octets) where
    flags_small : (k : ℕ) → (front_of (field_at s octets k)).flags < 256
    unfolding front_of
    flags_small k = field_octets_lem s octets k all 2

    front_plain : (i : ℕ) → i < (walk_at s octets (data_fields s)).set → front_of (field_at s octets (3 * i)) ≡ front_for s (value_of s octets) i 0
    front_plain i h =
        let t = the_set i h in
        let p = (original_at true s octets accepted (3 * i) (omega (arith, t.inside)) t.begins).front in
        let told = copies.told_alike true s octets accepted (3 * i) (omega (arith, t.inside)) t.begins in
        let size = length_field (the_field i h) in
        let all_sets = (copies.whole_sets true s octets accepted).1 in
        let last = last_at true s octets accepted plain.none_ignored i h ∙ ap (λ (n : ℕ). eqb (i + 1) n) (sym sets_told) in
        let flagged = (plain_set i h).flagged
        ∙ ap₂ (λ (before these : List Defect). is_unordered (behind_all 0 before) these) (sym (defects_before_lem i h)) (sym (defects_of_lem i h)) in
        λ j. record {
          count = (p.count ∙ ap (λ (n : ℕ). n - 2) size) j;
          flags = flags_are (front_of (field_at s octets (3 * i))).flags _ _ (flags_small (3 * i)) p.plain last flagged j;
          copy = p.copy j;
          sets = (told.sets ∙ sym all_sets ∙ sym sets_told) j;
          set = (told.set ∙ t.set) j;
          cylinder = told.cylinder j;
          head = told.head j;
        }

    original_plain : (i : ℕ) → i < (walk_at s octets (data_fields s)).set → field_at s octets (3 * i) ≡ data_field s (value_of s octets) i 0
    original_plain i h =
        let t = the_set i h in
        let p = original_at true s octets accepted (3 * i) (omega (arith, t.inside)) t.begins in
        let f = the_field i h in
        let these = defects_of_lem i h in
        original_is s (value_of s octets) i (field_at s octets (3 * i)) (field_octets_lem s octets (3 * i) all) (length_field f) (some_field s (3 * i) f.inside) (front_plain i h) (sym these)
        (λ j low high. p.padding j (rw these at low) high) p.crc

    copy_plain : (i k copy : ℕ) → i < (walk_at s octets (data_fields s)).set → k < data_fields s → is_ignored (field_at s octets k) ≡ false → (copy ≡ 0 → ⊥)
        → (walk_at s octets k).original ≡ 3 * i → (walk_at s octets k).copy ≡ copy → field_at s octets k ≡ data_field s (value_of s octets) i copy
    copy_plain i k copy h inside heard other first due =
        let other' : (walk_at s octets k).copy ≡ 0 → ⊥ = rw due other in
        let on = going_on_lem (walk_at s octets k) other' in
        let p = copy_at true s octets accepted k (omega arith) on heard other' in
        let size = length_field (whole true s octets accepted k (omega arith) on) in
        copy_is s (value_of s octets) i copy (field_at s octets k) (field_at s octets (walk_at s octets k).original) (field_octets_lem s octets k all) size (some_field s k inside)
        (ap (field_at s octets) first ∙ original_plain i h) (p.number ∙ due) (λ j not-3 few. p.alike j not-3 (rw size few)) p.crc

    field_plain : (i copy : ℕ) → i < (walk_at s octets (data_fields s)).set → copy < 3 → field_at s octets (3 * i + copy) ≡ data_field s (value_of s octets) i copy
    unfolding pick
    field_plain i zero h few = rw add-zero (original_plain i h)
    field_plain i (suc zero) h few =
        let t = the_set i h in
        let e : 3 * i + 1 ≡ suc (3 * i) = omega arith in
        rw e (copy_plain i (suc (3 * i)) 1 h (omega (arith, t.inside)) t.second_heard (λ e. omega arith) (rw t.second) (rw t.second))
    field_plain i (suc (suc zero)) h few =
        let t = the_set i h in
        let e : 3 * i + 2 ≡ suc (suc (3 * i)) = omega arith in
        rw e (copy_plain i (suc (suc (3 * i))) 2 h t.inside t.third_heard (λ e. omega arith) (rw t.third) (rw t.third))
    field_plain i (suc (suc (suc copy))) h few = absurd (omega arith)

    -- nothing follows the last set
    length_plain : length octets ≤ 3 * (walk_at s octets (data_fields s)).set * field_octets s
    length_plain =
        let n = (walk_at s octets (data_fields s)).set in
        let i = n - 1 in
        let last : suc i ≡ n = omega (arith, some_set) in
        let end = at_end true s octets accepted plain.none_ignored i last in
        rw last at (ltb-false (3 * suc i * field_octets s) (length octets) (nothing_behind true s octets accepted (3 * suc i) (omega (arith, to_end n (le_refl n))) end))

    pub plain_spelling : map_octets s (value_of s octets) ≡ octets
    plain_spelling =
        let v = value_of s octets in
        let n = (walk_at s octets (data_fields s)).set in
        let f = the_field 0 some_set in
        let wide = some_field s 0 f.inside in
        let b = map_alone s v wide in
        let long : length (map_octets s v) ≤ 3 * n * field_octets s = rw (length-map s v wide, sets_told) (le_refl (3 * n * field_octets s)) in
        sym (take_all (3 * n * field_octets s) (map_octets s v) long)
        ∙ same_beginning s (map_octets s v) octets (3 * n) (λ k few.
        let split : 3 * (k / 3) + k % 3 ≡ k = omega arith in
        let third : k / 3 < n = omega arith in
        rw split at (b.fields (k / 3) (k % 3) (rw sets_told third) (omega arith) ∙ sym (field_plain (k / 3) (k % 3) third (omega arith))))
        ∙ take_all (3 * n * field_octets s) octets length_plain
