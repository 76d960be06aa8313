-- A data field that passed its tests and is in the plain spelling has the octets that an encoding writes.
-- Assumes nothing.
use Prim.Native.Nat.{ℕ, ◌+◌, ◌-◌, ◌*◌, ◌/◌, ◌%◌, ◌<◌, ◌≤◌}
use mathlib.Core.Path.{◌≡◌, refl, sym, ap, ap₂, ◌∙◌}
use mathlib.Core.Bool.{Bool, true, false, not}
use mathlib.Core.List.{List, [], ◌∷◌, ◌++◌}
use native.Mathlib.Nat.{zero-mul, one-mul, div-div-eq-div-mul}
use native.Mathlib.Omega.{arith}
use borrow.Author.Tests.{eqb-true, eqb-false, not-false}
use lib.Dec.{eqb}
use lib.ListN.{length, get_or, take, drop, replicate, length-drop, length-set, length-replicate, get_or-replicate, take-append-drop}
use lib.ListN.{set as stored}
use lib.Seq.{take-add, take-suc, take_all, length-take-le, take_at, get_or-take, get_or-drop, get_or-set_same, get_or-set_other, ext_get_or}
use Rattle.laws.specs.Pick.{pick}
use Rattle.laws.specs.Octets.{octets_of, AllOctets}
use Rattle.laws.proofs.Tests.{or_l, or_r}
use Rattle.parts.specs.declared.setup.Setup.{Setup}
use Rattle.defects.specs.Crc.{crc_of}
use Rattle.defects.specs.Defect.{number_at, list_octets}
use Rattle.defects.specs.Field.{front_of, is_last, has_stray_flags, is_flagged, crc_in, slots, defects_from, defects_in}
use Rattle.defects.specs.Place.{field_octets}
use Rattle.defects.specs.Encoding.{Value, defects_of_set, flags_for, front_octets, body_octets, data_field}
use Rattle.defects.proofs.EntriesLeft.{entries_few, entries_listed}
use Rattle.defects.proofs.Listed.{listed_octets}
use Rattle.defects.proofs.Bodies.{few_entries, length_body, length_field, renumbered}
use Rattle.defects.proofs.EncodedField.{front_for}
use Rattle.defects.proofs.DefectOctets.{octets_there, with_next, length_list}

-- ---- the flags

-- a bit as a number
bit_is : (n : ℕ) (set : Bool) → eqb (n % 2) 1 ≡ set → n % 2 ≡ pick set 1 0
unfolding pick
bit_is n true e = eqb-true (n % 2) 1 e
bit_is n false e = let other = eqb-false (n % 2) 1 e in omega arith

top_bits : (n l : ℕ) → n < 16 → n % 8 ≡ 0 → n / 8 % 2 ≡ l → n ≡ l * 8
top_bits n l small low last = omega arith

by_bits : (flags l u : ℕ) → flags < 256 → flags / 128 % 2 ≡ l → flags / 8 % 2 ≡ u → flags / 16 % 8 ≡ 0 → flags % 8 ≡ 0 → flags ≡ l * 128 + u * 8
by_bits flags l u small last unordered high low =
    let below : flags ≡ flags / 16 * 16 + u * 8 = omega arith in
    let above = top_bits (flags / 16) l (omega arith) high (rw (div-div-eq-div-mul flags 16 8) last) in
    omega arith

times : (set : Bool) (n : ℕ) → pick set 1 0 * n ≡ pick set n 0
unfolding pick
times true n = one-mul n
times false n = zero-mul n

pub flags_are : (flags : ℕ) (last unordered : Bool) → flags < 256 → has_stray_flags flags ≡ false → is_last flags ≡ last → is_flagged flags ≡ unordered
    → flags ≡ flags_for last unordered
flags_are flags last unordered small plain l u =
    let high : flags / 16 % 8 ≡ 0 = eqb-true _ _ (not-false _ (or_l (not (eqb (flags / 16 % 8) 0)) _ plain)) in
    let low : flags % 8 ≡ 0 = eqb-true _ _ (not-false _ (or_r (not (eqb (flags / 16 % 8) 0)) _ plain)) in
    rw (times last 128, times unordered 8) at
    (by_bits flags (pick last 1 0) (pick unordered 1 0) small (bit_is (flags / 128) last l) (bit_is (flags / 8) unordered u) high low)

-- ---- the octets in front, and the entries

module _ (field : List ℕ) (all : AllOctets field) where
  front_there : 14 ≤ length field
      → let front = front_of field in
      octets_of 2 front.count ++ (front.flags ∷ front.copy ∷ []) ++ octets_of 2 front.sets ++ octets_of 2 front.set ++ octets_of 4 front.cylinder ++ octets_of 2 front.head
      ≡ take 14 field
  unfolding front_of
  front_there h =
      let count = octets_there field all 2 0 (omega arith) in
      let flags = ap (λ (front : List ℕ). front ++ (get_or field 2 0 ∷ [])) count ∙ sym (take-suc field 2 0 (omega arith)) in
      let copy : octets_of 2 (number_at 2 0 field) ++ (get_or field 2 0 ∷ get_or field 3 0 ∷ []) ≡ take 4 field = ap (λ (front : List ℕ). front ++ (get_or field 3 0 ∷ [])) flags ∙ sym (take-suc field 3 0 (omega arith)) in
      let sets = with_next field all 0 4 2 (omega arith) copy in
      let set = with_next field all 0 6 2 (omega arith) sets in
      let cylinder = with_next field all 0 8 4 (omega arith) set in
      with_next field all 0 12 2 (omega arith) cylinder

  entries_there : (i left : ℕ) → i + 12 * left ≤ length field
      → list_octets (defects_from field i left) ≡ take (12 * length (defects_from field i left)) (drop i field)
  entries_there i left h =
      ap list_octets (entries_listed field i left) ∙ listed_octets field all i (length (defects_from field i left)) (omega (arith, entries_few field i left))

-- ---- the padding and the CRC

zeros_there : (field : List ℕ) (n m : ℕ) → n + m ≤ length field → ((i : ℕ) → n ≤ i → i < n + m → get_or field i 0 ≡ 0) → take m (drop n field) ≡ replicate m 0
zeros_there field n m h zero-at =
    let long : length (take m (drop n field)) ≡ m = length-take-le m (drop n field) (simp length-drop (omega arith)) in
    ext_get_or 0 (take m (drop n field)) (replicate m 0) (long ∙ sym (length-replicate m 0)) (λ i few.
    let less : i < m = omega arith in
    get_or-take m (drop n field) i 0 less ∙ get_or-drop n field i 0 ∙ zero-at (n + i) (omega arith) (omega arith) ∙ sym (get_or-replicate m i 0 0 less))

-- all but the CRC, and the CRC
with_crc : (field body : List ℕ) → AllOctets field → 2 ≤ length field → take (length field - 2) field ≡ body → crc_in field ≡ crc_of (take (length field - 2) field)
    → field ≡ body ++ octets_of 2 (crc_of body)
with_crc field body all h is crc =
    let n = length field - 2 in
    let short : length (drop n field) ≤ 2 = simp length-drop (omega arith) in
    let rest : octets_of 2 (crc_of body) ≡ drop n field =
    ap (octets_of 2) (sym (crc ∙ ap crc_of is)) ∙ octets_there field all 2 n (omega arith) ∙ take_all 2 (drop n field) short in
    sym (take-append-drop n field) ∙ ap₂ ◌++◌ is (sym rest)

module _ (s : Setup) (v : Value) (set : ℕ) (field : List ℕ) (all : AllOctets field) (size : length field ≡ field_octets s) (wide : 8 ≤ s.field1)
    (front : front_of field ≡ front_for s v set 0) (listed : defects_in field ≡ defects_of_set s v set) where
  front_is : take 14 field ≡ front_octets s v set 0
  unfolding front_octets
  front_is = sym (rw front at (front_there field all (omega arith)))

  entries_are : take (12 * length (defects_of_set s v set)) (drop 14 field) ≡ list_octets (defects_of_set s v set)
  entries_are = sym (rw listed at (entries_there field all 14 (slots (length field)) (omega arith)))

  body_is : ((i : ℕ) → 14 + 12 * length (defects_of_set s v set) ≤ i → i < length field - 2 → get_or field i 0 ≡ 0)
      → take (length field - 2) field ≡ body_octets s v set 0
  unfolding body_octets
  body_is padding =
      let defects = defects_of_set s v set in
      let n = 14 + 12 * length defects in
      let few = few_entries s v set in
      let m = field_octets s - 16 - length (list_octets defects) in
      let long = length_list defects in
      let split : length field - 2 ≡ n + m = omega arith in
      rw (split, take-add n m field, take-add 14 (12 * length defects) field)
      (ap₂ ◌++◌ (ap₂ ◌++◌ front_is entries_are) (zeros_there field n m (omega arith) (λ i low high. padding i low (omega arith))))

  pub original_is : ((i : ℕ) → 14 + 12 * length (defects_of_set s v set) ≤ i → i < length field - 2 → get_or field i 0 ≡ 0)
      → crc_in field ≡ crc_of (take (length field - 2) field) → field ≡ data_field s v set 0
  unfolding data_field
  original_is padding crc = with_crc field (body_octets s v set 0) all (omega arith) (body_is padding) crc

-- ---- another copy

-- as copy 0, but for octet 3
changed : (field original : List ℕ) (n copy : ℕ) → 3 < n → n ≤ length field → length original ≡ length field → get_or field 3 0 ≡ copy
    → ((i : ℕ) → (i ≡ 3 → ⊥) → i < n → get_or field i 0 ≡ get_or original i 0) → take n field ≡ stored (take n original) 3 copy
changed field original n copy some long size number alike =
    let l = length-take-le n field long in
    let l' = length-take-le n original (omega arith) in
    ext_get_or 0 (take n field) (stored (take n original) 3 copy) (l ∙ sym (length-set (take n original) 3 copy ∙ l')) (λ i few. by_index i (eqb i 3) refl (omega arith) l')
  where
    by_index : (i : ℕ) (third : Bool) → eqb i 3 ≡ third → i < n → length (take n original) ≡ n → get_or (take n field) i 0 ≡ get_or (stored (take n original) 3 copy) i 0
    by_index i true e few l' =
        let is : i ≡ 3 = eqb-true i 3 e in
        rw is (get_or-take n field 3 0 some ∙ number ∙ sym (get_or-set_same (take n original) 3 copy 0 (omega arith)))
    by_index i false e few l' =
        let other = eqb-false i 3 e in
        get_or-take n field i 0 few ∙ alike i other few ∙ sym (get_or-set_other (take n original) 3 i copy 0 other ∙ get_or-take n original i 0 few)

pub copy_is : (s : Setup) (v : Value) (set copy : ℕ) (field original : List ℕ) → AllOctets field → length field ≡ field_octets s → 8 ≤ s.field1
    → original ≡ data_field s v set 0 → get_or field 3 0 ≡ copy
    → ((i : ℕ) → (i ≡ 3 → ⊥) → i < field_octets s - 2 → get_or field i 0 ≡ get_or original i 0)
    → crc_in field ≡ crc_of (take (length field - 2) field) → field ≡ data_field s v set copy
unfolding data_field
copy_is s v set copy field original all size wide is number alike crc =
    let n = length field - 2 in
    let long = ap length is ∙ length_field s v set 0 wide in
    let body : take n original ≡ body_octets s v set 0 = rw is (take_at (body_octets s v set 0) _ n (length_body s v set 0 wide ∙ omega arith)) in
    let same = changed field original n copy (omega arith) (omega arith) (omega arith) number (λ i other few. alike i other (omega arith)) in
    with_crc field (body_octets s v set copy) all (omega arith) (same ∙ ap (λ (front : List ℕ). stored front 3 copy) body ∙ renumbered s v set 0 copy) crc
