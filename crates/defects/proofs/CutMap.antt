-- A string with octets behind its map, cut where the map ends, is a map without an offence, and tells the same.
-- Assumes nothing.
use Prim.Native.Nat.{ℕ, zero, suc, ◌+◌, ◌-◌, ◌*◌, ◌/◌, ◌≤◌, ◌<◌}
use mathlib.Core.Path.{◌≡◌, refl, sym, ap, ◌∙◌}
use mathlib.Core.Bool.{Bool, true, false}
use mathlib.Core.List.{List, [], ◌∷◌, ◌++◌}
use native.Mathlib.Nat.{suc-mul, mul-le-mul_right}
use native.Mathlib.Omega.{arith}
use borrow.Author.Tests.{le-ltb, ltb-true, ltb-false, eqb-false}
use lib.Dec.{ltb}
use lib.ListN.{length, take, drop}
use lib.Seq.{length-take-le, take-add, take-take, drop_at}
use Rattle.laws.specs.Pick.{pick}
use Rattle.parts.specs.declared.setup.Setup.{Setup}
use Rattle.defects.specs.Offence.{Test, no_offence, offence_at, first_of, number_in, offset_in}
use Rattle.defects.specs.Place.{field_octets, data_fields}
use Rattle.defects.specs.Walk.{is_ended, field_at, walk_at, defects_before, tests_from, map_tests}
use Rattle.defects.specs.Decoding.{decode_offence, defects_of, map_of}
use Rattle.defects.proofs.WalkSteps.{ended_stays, defects_stay}
use Rattle.defects.proofs.TestsAt.{due_tests, tests_going, tests_ended, none_behind}
use Rattle.defects.proofs.Thirds.{counted}
use Rattle.defects.proofs.Offences.{All, Passed, none_found, both}
use Rattle.defects.proofs.ReadIsDecode.{Others, due_others}

-- ---- where the map ends

-- other tests stand before a 28: none of them holds
behind_passed : {tests : List Test} (rest : List Test) (offset : ℕ) → Others tests → first_of (tests ++ rest) ≡ offence_at 28 offset
    → Passed tests × (first_of rest ≡ offence_at 28 offset)
unfolding first_of pick
behind_passed rest offset All.end e = (All.end, e)
behind_passed rest offset (All.next {test = test} {tests = tests} h p) e = by_test test.holds refl e (behind_passed rest offset p)
  where
    by_test : (holds : Bool) → test.holds ≡ holds → pick holds (offence_at test.number test.offset) (first_of (tests ++ rest)) ≡ offence_at 28 offset
        → (first_of (tests ++ rest) ≡ offence_at 28 offset → Passed tests × (first_of rest ≡ offence_at 28 offset))
        → Passed (test ∷ tests) × (first_of rest ≡ offence_at 28 offset)
    by_test true t e below = absurd (eqb-false test.number 28 h (ap number_in e))
    by_test false t e below = let (passed, behind) = below e in (All.next t passed, behind)

-- so many data fields on, the map ends at this offset
data Ends (s : Setup) (octets : List ℕ) (offset : ℕ) : ℕ → ℕ → Type 0 where
  here : {k count : ℕ} → is_ended (walk_at s octets k) ≡ true → offset ≡ k * field_octets s → offset < length octets → Ends s octets offset k (suc count)
  later : {k count : ℕ} → is_ended (walk_at s octets k) ≡ false → Passed (due_tests s octets k) → Ends s octets offset (suc k) count → Ends s octets offset k (suc count)

ends : (s : Setup) (octets : List ℕ) (offset k count : ℕ) → first_of (tests_from true s octets k count) ≡ offence_at 28 offset → Ends s octets offset k count
unfolding tests_from first_of pick
ends s octets offset k zero e = absurd (cc)
ends s octets offset k (suc count) e = by_test (is_ended (walk_at s octets k)) refl (ends s octets offset (suc k) count)
  where
    at_end : (long : Bool) → ltb (k * field_octets s) (length octets) ≡ long → is_ended (walk_at s octets k) ≡ true
        → pick long (offence_at 28 (k * field_octets s)) (first_of (tests_from true s octets (suc k) count)) ≡ offence_at 28 offset → Ends s octets offset k (suc count)
    at_end true long over first =
        let same : k * field_octets s ≡ offset = ap offset_in first in
        here over (sym same) (omega (arith, ltb-true (k * field_octets s) (length octets) long))
    at_end false long over first = let none = none_found (none_behind true s octets k (suc count) over long) in absurd (cc)

    by_test : (over : Bool) → is_ended (walk_at s octets k) ≡ over
        → (first_of (tests_from true s octets (suc k) count) ≡ offence_at 28 offset → Ends s octets offset (suc k) count) → Ends s octets offset k (suc count)
    by_test true over below = at_end (ltb (k * field_octets s) (length octets)) refl over (rw (tests_ended true s octets k over) at e)
    by_test false going below = let (passed, rest) = behind_passed _ offset (due_others s octets k) (rw (tests_going true s octets k going) at e) in later going passed (below rest)

reaches : {s : Setup} {octets : List ℕ} {offset k count : ℕ} → Ends s octets offset k count → (k * field_octets s ≤ offset) × (offset < length octets)
reaches (here over at within) = (omega arith, within)
reaches {s} {k = k} (later going passed on) = let (far, within) = reaches on in (omega (arith, suc-mul k (field_octets s)), within)

-- ---- the same up to there

window_kept : (list : List ℕ) (n at size : ℕ) → at + size ≤ n → n ≤ length list → take size (drop at (take n list)) ≡ take size (drop at list)
window_kept list n at size h l =
    let m = n - at in
    let sum : n ≡ at + m = omega arith in
    rw (sum, take-add at m list, drop_at (take at list) (take m (drop at list)) at (length-take-le at list (omega arith))) (take-take size m (drop at list) (omega arith))

record Same (s : Setup) (a b : List ℕ) (k : ℕ) : Type 0 where
  walk : walk_at s a k ≡ walk_at s b k
  listed : defects_before s a k ≡ defects_before s b k

module _ (s : Setup) (octets : List ℕ) (offset : ℕ) (within : offset ≤ length octets) where
  abbrev cut : List ℕ
  cut = take offset octets

  length_cut : length cut ≡ offset
  length_cut = length-take-le offset octets within

  field_kept : (k : ℕ) → suc k * field_octets s ≤ offset → field_at s cut k ≡ field_at s octets k
  unfolding field_at
  field_kept k h = window_kept octets offset (k * field_octets s) (field_octets s) (omega (arith, suc-mul k (field_octets s))) within

  same_on : (k : ℕ) → suc k * field_octets s ≤ offset → Same s cut octets k → Same s cut octets (suc k)
  unfolding walk_at defects_before
  same_on k h same = record { walk = rw (same.walk, field_kept k h); listed = rw (same.listed, same.walk, field_kept k h) }

  same_behind : (k n : ℕ) → is_ended (walk_at s octets k) ≡ true → Same s cut octets k → Same s cut octets (k + n)
  same_behind k n over same =
      let over' : is_ended (walk_at s cut k) ≡ true = rw same.walk over in
      record {
        walk = ended_stays s cut k n over' ∙ same.walk ∙ sym (ended_stays s octets k n over);
        listed = defects_stay s cut k n over' ∙ same.listed ∙ sym (defects_stay s octets k n over);
      }

  due_kept : (k : ℕ) → suc k * field_octets s ≤ offset → Same s cut octets k → due_tests s cut k ≡ due_tests s octets k
  due_kept k h same =
      let original = (walk_at s octets k).original in
      let earlier : suc original * field_octets s ≤ suc k * field_octets s = mul-le-mul_right (field_octets s) (omega (arith, (counted s octets k).original)) in
      let end : k * field_octets s + field_octets s ≤ offset = omega (arith, suc-mul k (field_octets s)) in
      rw (
        same.walk,
        same.listed,
        field_kept k h,
        field_kept original (omega arith),
        le-ltb (length cut) (k * field_octets s + field_octets s) (omega (arith, length_cut)),
        le-ltb (length octets) (k * field_octets s + field_octets s) (omega arith),
      )

  cut_passed : (total k count : ℕ) → k + count ≡ suc total → Ends s octets offset k count → Same s cut octets k
      → Passed (tests_from true s cut k count) × Same s cut octets total
  unfolding tests_from
  cut_passed total k zero sum x3 same = elim x3 [ ]
  cut_passed total k (suc count) sum (here over at within') same =
      let over' : is_ended (walk_at s cut k) ≡ true = rw same.walk over in
      let whole : k + count ≡ total = omega arith in
      (none_behind true s cut k (suc count) over' (le-ltb (k * field_octets s) (length cut) (omega (arith, length_cut))), rw whole at (same_behind k count over same))
  cut_passed total k (suc count) sum (later going passed on) same =
      let far = (reaches on).0 in
      let (rest, at_end) = cut_passed total (suc k) count (omega arith) on (same_on k far same) in
      (rw (tests_going true s cut k (rw same.walk going), due_kept k far same) (both passed rest), at_end)

-- ---- 9 and 10 are passed as before

with_rows : {nine ten ten' : Test} {tests : List Test} → Passed (nine ∷ ten ∷ []) → (ten.holds ≡ false → ten'.holds ≡ false) → Passed tests
    → Passed (nine ∷ ten' ∷ tests)
with_rows (All.next h (All.next g All.end)) room p = All.next h (All.next (room g) p)

pub cut_map : (s : Setup) (octets lent : List ℕ) (offset : ℕ) → decode_offence s octets lent ≡ offence_at 28 offset
    → let cut = take offset octets in (decode_offence s cut lent ≡ no_offence) × (map_of s cut ≡ map_of s octets) × (defects_of s cut ≡ defects_of s octets)
unfolding walk_at defects_before
cut_map s octets lent offset e =
    let (rows, map) = behind_passed (map_tests true s octets) offset (All.next refl (All.next refl All.end)) e in
    let end = ends s octets offset 0 (suc (data_fields s)) map in
    let within : offset ≤ length octets = omega (arith, (reaches end).1) in
    let short = length_cut s octets offset within in
    let (passed, same) = cut_passed s octets offset within (data_fields s) 0 (suc (data_fields s)) (omega arith) end (record { walk = refl; listed = refl }) in
    let room : ltb (length lent) (length octets / 3) ≡ false → ltb (length lent) (length (take offset octets) / 3) ≡ false =
    λ h. le-ltb (length lent) (length (take offset octets) / 3) (omega (arith, ltb-false (length lent) (length octets / 3) h)) in
    (none_found (with_rows rows room passed), rw (same.walk, same.listed), same.listed)
