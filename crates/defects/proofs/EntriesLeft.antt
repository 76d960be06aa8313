-- The entries of a data field, how many there are, and judged one after another: what is left has the first offence of all, and leads to the same count and address.
-- Assumes nothing.
use Prim.Native.Nat.{ℕ, zero, suc, ◌+◌, ◌-◌, ◌*◌, ◌<◌, ◌≤◌}
use mathlib.Core.Path.{◌≡◌, refl, sym, ap, ◌∙◌}
use mathlib.Core.Bool.{Bool, true, false}
use mathlib.Core.List.{List, [], ◌∷◌}
use native.Mathlib.Nat.{zero-add, add-zero}
use native.Mathlib.Omega.{arith}
use lib.ListN.{length}
use Rattle.std.specs.Prelude.{Ok, Err}
use Rattle.laws.specs.Pick.{pick}
use Rattle.parts.specs.declared.setup.Setup.{Setup}
use Rattle.laws.proofs.Pick.{either}
use Rattle.defects.specs.Encoding.{list_from}
use Rattle.defects.specs.Offence.{no_offence, first_of, offence_in}
use Rattle.defects.specs.Defect.{defect_at, is_blank, behind, behind_all}
use Rattle.defects.specs.Field.{slots, defects_from, defects_in}
use Rattle.defects.specs.Judging.{entry_tests, list_tests}
use Rattle.defects.specs.Steps.{EntriesJudged}
use Rattle.defects.specs.declared.defect.Defect.{Defect}
use Rattle.defects.specs.declared.offence.Offence.{Offence}
use Rattle.defects.proofs.Offences.{first_behind, stops}

-- no more entries than slots, and a run of the list that the octets make
pub entries_few : (field : List ℕ) (i left : ℕ) → length (defects_from field i left) ≤ left
unfolding defects_from
entries_few field i zero = omega arith
entries_few field i (suc left) =
    let below = entries_few field (i + 12) left in
    either (λ (defects : List Defect). length defects ≤ suc left) (is_blank (defect_at i field)) (omega arith) (omega arith)

pub entries_listed : (field : List ℕ) (i left : ℕ) → defects_from field i left ≡ list_from field i (length (defects_from field i left))
unfolding defects_from list_from
entries_listed field i zero = refl
entries_listed field i (suc left) =
    either (λ (defects : List Defect). defects ≡ list_from field i (length defects)) (is_blank (defect_at i field)) refl
    (ap (λ (rest : List Defect). defect_at i field ∷ rest) (entries_listed field (i + 12) left))

-- the entries from here on: none, or this one and those behind it
pub none_left : (field : List ℕ) (i index : ℕ) → slots (length field) ≤ i → defects_from field index (slots (length field) - i) ≡ []
unfolding defects_from
none_left field i index h = let z : slots (length field) - i ≡ 0 = omega arith in rw z

pub blank_left : (field : List ℕ) (i index : ℕ) → i < slots (length field) → is_blank (defect_at index field) ≡ true → defects_from field index (slots (length field) - i) ≡ []
unfolding defects_from pick
blank_left field i index h b = let n : slots (length field) - i ≡ suc (slots (length field) - (i + 1)) = omega arith in rw (n, b)

pub one_left : (field : List ℕ) (i index : ℕ) → i < slots (length field) → is_blank (defect_at index field) ≡ false
    → defects_from field index (slots (length field) - i) ≡ defect_at index field ∷ defects_from field (index + 12) (slots (length field) - (i + 1))
unfolding defects_from pick
one_left field i index h b = let n : slots (length field) - i ≡ suc (slots (length field) - (i + 1)) = omega arith in rw (n, b)

module _ (s : Setup) (flagged : Bool) (least start : ℕ) (field : List ℕ) where
  -- the entries behind i of them
  abbrev left : ℕ → List Defect
  left i = defects_from field (14 + 12 * i) (slots (length field) - i)

  -- i entries were judged
  pub record Left (i above : ℕ) : Type 0 where
    pub offence : first_of (list_tests s flagged least (start + 14) (defects_in field)) ≡ first_of (list_tests s flagged above (start + (14 + 12 * i)) (left i))
    pub count : length (defects_in field) ≡ i + length (left i)
    pub next : behind_all least (defects_in field) ≡ behind_all above (left i)

  pub left_start : Left 0 least
  left_start =
      let all : slots (length field) - 0 ≡ slots (length field) = omega arith in
      record { offence = rw all; count = rw (all, zero-add); next = rw all }

  -- no entry is left
  pub left_none : (i above : ℕ) → Left i above → left i ≡ [] → EntriesJudged s flagged least start field (Ok (record { count = i; least = above }))
  unfolding list_tests first_of
  left_none i above l e =
      let many : length (defects_in field) ≡ i = l.count ∙ rw (e, add-zero) in
      let last : behind_all least (defects_in field) ≡ above = l.next ∙ rw e in
      record { offence = sym (l.offence ∙ rw e); entries = rw (many, last) }

  -- the next one has an offence
  pub left_stop : (i above : ℕ) (offence : Offence) → Left i above → i < slots (length field) → is_blank (defect_at (14 + 12 * i) field) ≡ false
      → offence_in {A = ℕ} (Err offence) ≡ first_of (entry_tests s flagged above (start + (14 + 12 * i)) (defect_at (14 + 12 * i) field))
      → EntriesJudged s flagged least start field (Err offence)
  unfolding list_tests
  left_stop i above offence l h b e =
      let d = defect_at (14 + 12 * i) field in
      let rest = list_tests s flagged (behind above d) (start + (14 + 12 * i) + 12) (defects_from field (14 + 12 * i + 12) (slots (length field) - (i + 1))) in
      record { offence = stops (entry_tests s flagged above (start + (14 + 12 * i)) d) rest e ∙ sym (l.offence ∙ rw (one_left field i (14 + 12 * i) h b)); entries = tt }

  -- the next one has none
  pub left_next : (i above above' : ℕ) → Left i above → i < slots (length field) → is_blank (defect_at (14 + 12 * i) field) ≡ false
      → no_offence ≡ first_of (entry_tests s flagged above (start + (14 + 12 * i)) (defect_at (14 + 12 * i) field))
      → above' ≡ behind above (defect_at (14 + 12 * i) field) → Left (i + 1) above'
  unfolding list_tests
  left_next i above above' l h b e q =
      let d = defect_at (14 + 12 * i) field in
      let one = one_left field i (14 + 12 * i) h b in
      let at : 14 + 12 * i + 12 ≡ 14 + 12 * (i + 1) = omega arith in
      let there : start + (14 + 12 * i) + 12 ≡ start + (14 + 12 * (i + 1)) = omega arith in
      record {
        offence = l.offence ∙ rw one (first_behind (entry_tests s flagged above (start + (14 + 12 * i)) d) _ (sym e) ∙ rw (there, at, q));
        count = l.count ∙ rw one (rw at (omega arith));
        next = l.next ∙ rw one (rw (at, q));
      }
