-- No test of an encoded data field holds.
-- Assumes nothing.
use Prim.Native.Nat.{ℕ, zero, suc, ◌+◌, ◌-◌, ◌≤◌, ◌<◌}
use mathlib.Core.Path.{◌≡◌, refl, sym, ap, ◌∙◌}
use mathlib.Core.Bool.{Bool, true, false, not, ◌&&◌}
use mathlib.Core.List.{List, [], ◌∷◌}
use native.Mathlib.Numerals.{add-one}
use native.Mathlib.Omega.{arith}
use borrow.Author.Tests.{lt-leb, ne_eqb}
use lib.Dec.{eqb}
use lib.ListN.{length}
use Rattle.laws.specs.Pick.{pick}
use Rattle.laws.proofs.Tests.{same_equation, or_l, or_r}
use Rattle.parts.specs.declared.setup.Setup.{Setup}
use Rattle.defects.specs.Offence.{tests_over}
use Rattle.defects.specs.Defect.{behind, behind_all, is_out_of_sequence}
use Rattle.defects.specs.Field.{is_flagged}
use Rattle.defects.specs.Place.{field_octets}
use Rattle.defects.specs.Judging.{has_wrong_flags, opening_tests, later_tests, front_tests, entry_tests, list_tests, zero_test, same_test, crc_tests, padding_tests, original_tests, copy_tests}
use Rattle.defects.specs.Encoding.{Value, defects_of_set, defects_before_set, is_unordered, flags_for, set_flags, data_field}
use Rattle.defects.specs.declared.defect.Defect.{Defect}
use Rattle.defects.proofs.Offences.{Passed, end, next, both, over, as_it_was_lem, as_itself}
use Rattle.defects.proofs.Bodies.{length_field}
use Rattle.defects.proofs.EncodableValue.{AllEntries, sets, Encodable}
use Rattle.defects.proofs.EncodedField.{front_for, front_written, set_entries, defects_written, copy_told, padding_written, crc_written, copies_alike}
use Rattle.defects.proofs.EncodedWalk.{within_set, before_set}

-- ---- the flags

flags_right : (last unordered : Bool) → has_wrong_flags (flags_for last unordered) last ≡ false
unfolding has_wrong_flags pick
flags_right true true = refl
flags_right true false = refl
flags_right false true = refl
flags_right false false = refl

flags_passed : {last due : Bool} (unordered : Bool) → due ≡ last → has_wrong_flags (flags_for last unordered) due ≡ false
flags_passed {last} unordered e = rw e (flags_right last unordered)

pub flagged_told : (last unordered : Bool) → is_flagged (flags_for last unordered) ≡ unordered
unfolding pick
flagged_told true true = refl
flagged_told true false = refl
flagged_told false true = refl
flagged_told false false = refl

-- ---- the entries

in_sequence : (flagged out : Bool) → (flagged ≡ false → out ≡ false) → (not flagged && out) ≡ false
in_sequence true out h = refl
in_sequence false out h = h refl

entries_passed : (s : Setup) (flagged : Bool) (least offset : ℕ) (defects : List Defect) → AllEntries s defects → (flagged ≡ false → is_unordered least defects ≡ false)
    → Passed (list_tests s flagged least offset defects)
unfolding list_tests entry_tests is_unordered
entries_passed s flagged least offset [] e h = end
entries_passed s flagged least offset (d ∷ defects) e h =
    next (lt-leb s.cylinders d.cylinder e.0.cylinder)
    (next (in_sequence flagged (is_out_of_sequence least d) (λ f. or_l _ _ (h f)))
    (next (lt-leb s.heads d.head e.0.head)
    (entries_passed s flagged (behind least d) (offset + 12) defects e.1 (λ f. or_r (is_out_of_sequence least d) _ (h f)))))

-- ---- copy 0

module _ (s : Setup) (v : Value) (e : Encodable s v) (start : ℕ) where
  opening_passed : Passed (opening_tests s start (front_for s v 0 0))
  unfolding opening_tests
  opening_passed =
      let unordered = is_unordered (behind_all 0 (defects_before_set s v 0)) (defects_of_set s v 0) in
      let last = same_equation (sets s v) 1 (0 + 1) (sets s v) (λ p. sym p) (λ p. sym p) in
      next (flags_passed unordered last)
      (next refl
      (next (ne_eqb (sets s v) 0 (λ p. omega arith))
      (next refl (next (lt-leb s.cylinders v.cylinder e.cylinder) (next (lt-leb s.heads v.head e.head) end)))))

  later_passed : (set : ℕ) → Passed (later_tests (before_set s v (suc set)) start (front_for s v (suc set) 0))
  unfolding later_tests
  later_passed set =
      let unordered = is_unordered (behind_all 0 (defects_before_set s v (suc set))) (defects_of_set s v (suc set)) in
      let last = same_equation (sets s v) (set + 1 + 1) (suc set + 1) (sets s v) (λ p. omega arith) (λ p. omega arith) in
      next (flags_passed unordered last)
      (next refl
      (next (as_itself (sets s v)) (next (as_it_was_lem (sym (add-one set))) (next (as_itself v.cylinder) (next (as_itself v.head) end)))))

  front_passed : (size set : ℕ) → size ≡ field_octets s → Passed (front_tests s (before_set s v set) start size (front_for s v set 0))
  unfolding front_tests pick
  front_passed size zero l = next (as_it_was_lem (ap (λ (n : ℕ). n - 2) (sym l))) opening_passed
  front_passed size (suc set) l = rw (ne_eqb (set + 1) 0 (λ p. omega arith)) (next (as_it_was_lem (ap (λ (n : ℕ). n - 2) (sym l))) (later_passed set))

module _ (s : Setup) (v : Value) (e : Encodable s v) (set : ℕ) (start : ℕ) where
  crc_passed : (copy : ℕ) → Passed (crc_tests start (data_field s v set copy))
  crc_passed copy = next (as_it_was_lem (crc_written s v set copy)) end

  padding_passed : Passed (padding_tests start (data_field s v set 0) (length (defects_of_set s v set)))
  padding_passed =
      let whole = length_field s v set 0 e.field1 in
      over (zero_test start (data_field s v set 0)) _ _ (λ i l m. as_it_was_lem (padding_written s v e set 0 i l (omega arith)))

  list_passed : Passed (list_tests s (is_flagged (set_flags s v set)) (behind_all 0 (defects_before_set s v set)) (start + 14) (defects_of_set s v set))
  list_passed =
      let least = behind_all 0 (defects_before_set s v set) in
      let defects = defects_of_set s v set in
      entries_passed s (is_flagged (set_flags s v set)) least (start + 14) defects (set_entries s v e set)
      (λ f. sym (flagged_told (eqb (set + 1) (sets s v)) (is_unordered least defects)) ∙ f)

  pub original_passed : set < sets s v → Passed (original_tests s (before_set s v set) (behind_all 0 (defects_before_set s v set)) start (data_field s v set 0))
  original_passed h =
      let front = front_passed s v e start (length (data_field s v set 0)) set (length_field s v set 0 e.field1) in
      rw (front_written s v e set 0 h, defects_written s v e set 0) (both (both (both front list_passed) padding_passed) (crc_passed 0))

  same_passed : (copy i left : ℕ) → i + left ≤ field_octets s - 2 → ((j : ℕ) → i ≤ j → j < i + left → j ≡ 3 → ⊥)
      → Passed (tests_over (same_test start (data_field s v set copy) (data_field s v set 0)) i left)
  same_passed copy i left h other =
      over (same_test start (data_field s v set copy) (data_field s v set 0)) i left
      (λ j l m. as_it_was_lem (copies_alike s v e set copy j (omega arith) (other j l m)))

  pub copy_passed : (copy : ℕ) → Passed (copy_tests (within_set s v set copy) start (data_field s v set 0) (data_field s v set copy))
  copy_passed copy =
      let whole = length_field s v set copy e.field1 in
      let front = same_passed copy 0 3 (omega arith) (λ j l m p. omega arith) in
      let rest = same_passed copy 4 (length (data_field s v set copy) - 6) (omega arith) (λ j l m p. omega arith) in
      both (both front (next (as_it_was_lem (copy_told s v set copy)) rest)) (crc_passed copy)
