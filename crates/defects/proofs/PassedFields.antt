-- What a data field tells where none of its tests holds: copy 0 of a set, and copies 1 and 2.
-- Assumes nothing.
use Prim.Native.Nat.{ℕ, zero, suc, ◌+◌, ◌-◌, ◌*◌, ◌<◌, ◌≤◌}
use mathlib.Core.Path.{◌≡◌, refl, sym, ◌∙◌}
use mathlib.Core.Bool.{Bool, true, false, not, ◌&&◌, ◌||◌, true≢false}
use mathlib.Core.List.{List, [], ◌∷◌}
use native.Mathlib.Omega.{arith}
use borrow.Author.Tests.{eqb-true, eqb-false, leb-false, lt-ltb, ltb-true, ltb-false, not-false}
use lib.Dec.{eqb, ltb}
use lib.ListN.{length, get_or, take}
use Rattle.laws.specs.Pick.{pick}
use Rattle.laws.proofs.Pick.{cases}
use Rattle.laws.proofs.Tests.{or_l}
use Rattle.parts.specs.declared.setup.Setup.{Setup}
use Rattle.defects.specs.Offence.{◌at◌when◌, no_offence, first_of, tests_over}
use Rattle.defects.specs.Crc.{crc_of}
use Rattle.defects.specs.Defect.{defect_at, is_blank, behind, is_out_of_sequence}
use Rattle.defects.specs.Field.{front_of, is_last, has_stray_flags, is_flagged, crc_in, defects_from, defects_in}
use Rattle.defects.specs.Judging.{has_wrong_flags, opening_tests, later_tests, front_tests, entry_tests, list_tests, zero_test, same_test, padding_tests, crc_tests, original_tests, copy_tests}
use Rattle.defects.specs.Encoding.{is_unordered, is_listable, are_listable}
use Rattle.defects.specs.declared.defect.Defect.{Defect}
use Rattle.defects.specs.declared.front.Front.{Front}
use Rattle.defects.specs.declared.walk.Walk.{Walk}
use Rattle.defects.proofs.Offences.{none_head, none_parts, none_over, end, next, Passed, all_passed}

-- ---- the octets in front

pub record FrontPassed (s : Setup) (w : Walk) (size : ℕ) (front : Front) : Type 0 where
  pub count : front.count ≡ size - 2
  pub plain : has_stray_flags front.flags ≡ false
  pub last : is_last front.flags ≡ eqb front.sets (w.set + 1)
  pub copy : front.copy ≡ 0
  pub set : front.set ≡ w.set
  pub opens : w.set ≡ 0 → (0 < front.sets) × (front.cylinder < s.cylinders) × (front.head < s.heads)
  pub follows : (w.set ≡ 0 → ⊥) → (front.sets ≡ w.sets) × (front.cylinder ≡ w.cylinder) × (front.head ≡ w.head)

flags_plain : (flags : ℕ) (last : Bool) → has_wrong_flags flags last ≡ false → has_stray_flags flags ≡ false
unfolding has_wrong_flags
flags_plain flags last h = or_l (has_stray_flags flags) _ (or_l _ _ h)

agree : (stray is due : Bool) → (stray || (due && not is) || (not due && is)) ≡ false → is ≡ due
agree true is due h = absurd (true≢false h)
agree false true true h = refl
agree false true false h = absurd (true≢false h)
agree false false true h = absurd (true≢false h)
agree false false false h = refl

flags_last : (flags : ℕ) (last : Bool) → has_wrong_flags flags last ≡ false → is_last flags ≡ last
unfolding has_wrong_flags
flags_last flags last h = agree (has_stray_flags flags) (is_last flags) last h

same : (a b : ℕ) → not (eqb a b) ≡ false → a ≡ b
same a b h = eqb-true a b (not-false (eqb a b) h)

front_passed : (s : Setup) (w : Walk) (start size : ℕ) (front : Front) → first_of (front_tests s w start size front) ≡ no_offence → FrontPassed s w size front
unfolding front_tests opening_tests later_tests pick
front_passed s w start size front h = by_set (eqb w.set 0) refl (all_passed _ h)
  where
    by_set : (opens : Bool) → eqb w.set 0 ≡ opens
        → Passed (18 at start when not (eqb front.count (size - 2)) ∷ pick opens (opening_tests s start front) (later_tests w start front)) → FrontPassed s w size front
    by_set true e (next count (next flags (next copy (next sets (next set (next cylinder (next head end))))))) =
        let none : w.set ≡ 0 = eqb-true _ _ e in
        record {
          count = same _ _ count;
          plain = flags_plain _ _ flags;
          last = rw none (flags_last _ _ flags);
          copy = same _ _ copy;
          set = same _ _ set ∙ sym none;
          opens = λ e. (omega (arith, eqb-false front.sets 0 sets), leb-false _ _ cylinder, leb-false _ _ head);
          follows = λ other. absurd (other none);
        }
    by_set false e (next count (next flags (next copy (next sets (next set (next cylinder (next head end))))))) =
        record {
          count = same _ _ count;
          plain = flags_plain _ _ flags;
          last = rw (same front.sets w.sets sets) (flags_last _ _ flags);
          copy = same _ _ copy;
          set = same _ _ set;
          opens = λ none. absurd (eqb-false _ _ e none);
          follows = λ other. (same _ _ sets, same _ _ cylinder, same _ _ head);
        }

-- ---- the entries

abbrev NoneBlank : List Defect → Type 0
NoneBlank [] = Unit
NoneBlank (d ∷ defects) = (is_blank d ≡ false) × NoneBlank defects

none_blank : (field : List ℕ) (i left : ℕ) → NoneBlank (defects_from field i left)
unfolding defects_from
none_blank field i zero = tt
none_blank field i (suc left) = cases NoneBlank (is_blank (defect_at i field)) (λ blank. tt) (λ solid. (solid, none_blank field (i + 12) left))

entry_passed : (s : Setup) (flagged : Bool) (least offset : ℕ) (d : Defect) → first_of (entry_tests s flagged least offset d) ≡ no_offence
    → (d.cylinder < s.cylinders) × (d.head < s.heads) × (flagged ≡ false → is_out_of_sequence least d ≡ false)
unfolding entry_tests
entry_passed s flagged least offset d h =
    let (cylinder, rest) = none_head _ _ h in
    let (order, last) = none_head _ _ rest in
    (leb-false _ _ cylinder, leb-false _ _ (none_head _ _ last).0, λ e. rw e at order)

list_passed : (s : Setup) (flagged : Bool) (least offset : ℕ) (defects : List Defect) → NoneBlank defects
    → first_of (list_tests s flagged least offset defects) ≡ no_offence
    → (are_listable s defects ≡ true) × (flagged ≡ false → is_unordered least defects ≡ false)
unfolding list_tests is_listable are_listable is_unordered
list_passed s flagged least offset [] solid h = (refl, λ e. refl)
list_passed s flagged least offset (d ∷ defects) solid h =
    let (this, rest) = none_parts (entry_tests s flagged least offset d) _ h in
    let (cylinder, head, order) = entry_passed s flagged least offset d this in
    let (listable, ordered) = list_passed s flagged (behind least d) (offset + 12) defects solid.1 rest in
    (rw (lt-ltb d.cylinder s.cylinders cylinder, lt-ltb d.head s.heads head, solid.0) listable, λ e. rw (order e) (ordered e))

-- ---- a data field

pub record OriginalPassed (s : Setup) (w : Walk) (least : ℕ) (field : List ℕ) : Type 0 where
  pub front : FrontPassed s w (length field) (front_of field)
  pub listable : are_listable s (defects_in field) ≡ true
  pub ordered : is_flagged (front_of field).flags ≡ false → is_unordered least (defects_in field) ≡ false
  pub padding : (i : ℕ) → 14 + 12 * length (defects_in field) ≤ i → i < length field - 2 → get_or field i 0 ≡ 0
  pub crc : crc_in field ≡ crc_of (take (length field - 2) field)

crc_passed : (start : ℕ) (field : List ℕ) → first_of (crc_tests start field) ≡ no_offence → crc_in field ≡ crc_of (take (length field - 2) field)
crc_passed start field h = same _ _ (none_head _ _ h).0

pub original_passed : (s : Setup) (w : Walk) (least start : ℕ) (field : List ℕ) → first_of (original_tests s w least start field) ≡ no_offence
    → OriginalPassed s w least field
original_passed s w least start field h =
    let count = length (defects_in field) in
    let (others, crc) = none_parts _ (crc_tests start field) h in
    let (judged, zeros) = none_parts _ (padding_tests start field count) others in
    let (front, list) = none_parts (front_tests s w start (length field) (front_of field)) _ judged in
    let (listable, ordered) = list_passed s (is_flagged (front_of field).flags) least (start + 14) (defects_in field) (none_blank field 14 _) list in
    record {
      front = front_passed s w start (length field) (front_of field) front;
      listable = listable;
      ordered = ordered;
      padding = λ i low high. same _ _ (none_over (zero_test start field) (14 + 12 * count) _ zeros i low (omega arith));
      crc = crc_passed start field crc;
    }

pub record CopyPassed (w : Walk) (original field : List ℕ) : Type 0 where
  pub number : get_or field 3 0 ≡ w.copy
  pub alike : (i : ℕ) → (i ≡ 3 → ⊥) → i < length field - 2 → get_or field i 0 ≡ get_or original i 0
  pub crc : crc_in field ≡ crc_of (take (length field - 2) field)

pub copy_passed : (w : Walk) (start : ℕ) (original field : List ℕ) → 6 ≤ length field → first_of (copy_tests w start original field) ≡ no_offence
    → CopyPassed w original field
copy_passed w start original field long h =
    let test = same_test start field original in
    let (others, crc) = none_parts _ (crc_tests start field) h in
    let (low, high) = none_parts (tests_over test 0 3) _ others in
    let (number, above) = none_head _ (tests_over test 4 (length field - 6)) high in
    record {
      number = same _ _ number;
      alike = λ i other few. by_index i (ltb i 3) refl other few low above;
      crc = crc_passed start field crc;
    }
  where
    by_index : (i : ℕ) (front : Bool) → ltb i 3 ≡ front → (i ≡ 3 → ⊥) → i < length field - 2 → first_of (tests_over (same_test start field original) 0 3) ≡ no_offence
        → first_of (tests_over (same_test start field original) 4 (length field - 6)) ≡ no_offence → get_or field i 0 ≡ get_or original i 0
    by_index i true e other few low above = same _ _ (none_over (same_test start field original) 0 3 low i (omega arith) (ltb-true i 3 e))
    by_index i false e other few low above =
        let behind : 3 ≤ i = ltb-false i 3 e in
        same _ _ (none_over (same_test start field original) 4 (length field - 6) above i (omega arith) (omega arith))
