-- The walk of the decoder: where it stands, what is left to test has the first offence of all, and behind the map's end nothing changes.
-- Assumes nothing.
use Prim.Native.Nat.{ℕ, suc, ◌+◌, ◌-◌, ◌*◌, ◌<◌, ◌≤◌}
use mathlib.Core.Path.{◌≡◌, refl, sym, ap, ◌∙◌}
use mathlib.Core.Bool.{Bool, true, false, true≢false}
use mathlib.Core.List.{List, [], ◌∷◌, ◌++◌}
use native.Mathlib.Nat.{zero-mul, add-mul, one-mul}
use native.Mathlib.Numerals.{add-one}
use native.Mathlib.Omega.{arith}
use borrow.Author.Count.{below_more}
use borrow.Author.Tests.{ltb-false, le-leb, lt-leb}
use lib.Dec.{ltb}
use lib.ListN.{length}
use Rattle.laws.specs.Pick.{pick}
use Rattle.parts.specs.declared.setup.Setup.{Setup}
use Rattle.std.specs.Prelude.{Result, Ok, Err}
use Rattle.std.proofs.Math.Option.{Option, some}
use Rattle.defects.specs.Offence.{◌at◌when◌, Found, no_offence, first_of, offence_in}
use Rattle.defects.specs.Defect.{behind_all}
use Rattle.defects.specs.Field.{is_ignored}
use Rattle.defects.specs.Place.{field_octets, data_fields}
use Rattle.defects.specs.Walk.{outset, is_ended, after, field_at, walk_at, defects_before, tests_at, tests_from, map_tests}
use Rattle.defects.specs.Steps.{last_tests, StepTaken, EndsAt}
use Rattle.defects.specs.declared.offence.Offence.{Offence}
use Rattle.defects.specs.declared.walk.Walk.{Walk}
use Rattle.defects.specs.declared.walk.Progress.{Progress}
use Rattle.defects.proofs.Listed.{behind_parts}
use Rattle.defects.proofs.WalkSteps.{walk_next, defects_next, ended_stays, defects_stay}
use Rattle.defects.proofs.TestsAt.{tests_of, behind_test, tests_going, none_behind}
use Rattle.defects.proofs.Offences.{one_holds, one_passed, one_due, not_held, first_behind, stops, none_found}

module _ (alone : Bool) (s : Setup) (octets : List ℕ) where
  -- ---- a turn

  -- no test before data field k holds
  pub record Reached (k : ℕ) (w : Walk) (least : ℕ) : Type 0 where
    pub within : k ≤ data_fields s
    pub whole : k * field_octets s ≤ length octets
    pub walk : w ≡ walk_at s octets k
    pub least' : least ≡ behind_all 0 (defects_before s octets k)
    pub going : (j : ℕ) → j < k → is_ended (walk_at s octets j) ≡ false
    pub rest : first_of (map_tests alone s octets) ≡ first_of (tests_from alone s octets k (suc (data_fields s) - k))

  pub reached_outset : Reached 0 outset 0
  unfolding walk_at defects_before
  reached_outset =
      let all : suc (data_fields s) - 0 ≡ suc (data_fields s) = omega arith in
      record { within = omega arith; whole = rw zero-mul (omega arith); walk = refl; least' = refl; going = λ j h. absurd (omega arith); rest = rw all }

  at_hand : (k : ℕ) → k ≤ data_fields s
      → tests_from alone s octets k (suc (data_fields s) - k) ≡ tests_at alone s octets k ++ tests_from alone s octets (k + 1) (suc (data_fields s) - (k + 1))
  unfolding tests_from
  at_hand k h = let e : suc (data_fields s) - k ≡ suc (suc (data_fields s) - (k + 1)) = omega arith in rw (e, add-one k)

  -- the tests at a data field before the end
  own_tests : (k : ℕ) → k < data_fields s → is_ended (walk_at s octets k) ≡ false
      → tests_at alone s octets k ≡ 17 at k * field_octets s when ltb (length octets) (k * field_octets s + field_octets s) ∷ pick (is_ignored (field_at s octets k)) [] (tests_of s octets k)
  unfolding tests_at pick
  own_tests k h going = tests_going alone s octets k going ∙ rw (lt-leb _ _ h)

  -- ---- behind the end

  tests_stay : (k n : ℕ) → is_ended (walk_at s octets k) ≡ true → first_of (tests_from alone s octets k (suc n)) ≡ first_of (behind_test alone s octets k ∷ [])
  unfolding tests_from tests_at first_of pick
  tests_stay k n e = by_test (behind_test alone s octets k).holds refl
    where
      by_test : (test : Bool) → (behind_test alone s octets k).holds ≡ test → first_of (tests_from alone s octets k (suc n)) ≡ first_of (behind_test alone s octets k ∷ [])
      by_test true t = rw (e, t)
      by_test false t = none_found (none_behind alone s octets k (suc n) e t) ∙ rw t

  module _ (k : ℕ) (w : Walk) (least : ℕ) (here : Reached k w least) where
    still_going : is_ended w ≡ false → is_ended (walk_at s octets k) ≡ false
    still_going e = ap is_ended (sym here.walk) ∙ e

    -- all tests have the first offence of those at hand
    all_of : {offence : Found} → some offence ≡ first_of (tests_at alone s octets k) → some offence ≡ first_of (map_tests alone s octets)
    all_of e = stops (tests_at alone s octets k) _ e ∙ sym (here.rest ∙ ap first_of (at_hand k here.within))

    pub reached_short : {offence : Found} → k < data_fields s → is_ended w ≡ false
        → some offence ≡ first_of (17 at k * field_octets s when ltb (length octets) (k * field_octets s + field_octets s) ∷ []) → some offence ≡ first_of (map_tests alone s octets)
    reached_short h e q = all_of (one_holds _ _ q ∙ sym (ap first_of (own_tests k h (still_going e))))

    module _ (h : k < data_fields s) (e : is_ended w ≡ false)
        (fits : no_offence ≡ first_of (17 at k * field_octets s when ltb (length octets) (k * field_octets s + field_octets s) ∷ [])) where
      -- what the turn found is what the tests at hand have
      turn_found : (r : Result Progress Offence) → StepTaken s w least k (k * field_octets s) (field_at s octets w.original) (field_at s octets k) r
          → offence_in r ≡ first_of (tests_at alone s octets k)
      turn_found r taken =
          let own : offence_in r ≡ first_of (pick (is_ignored (field_at s octets k)) [] (tests_of s octets k)) = taken.offence ∙ rw (here.walk, here.least') in
          one_passed _ _ fits own ∙ sym (ap first_of (own_tests k h (still_going e)))

      pub reached_stop : (offence : Offence) → StepTaken s w least k (k * field_octets s) (field_at s octets w.original) (field_at s octets k) (Err offence)
          → offence_in {A = Progress} (Err offence) ≡ first_of (map_tests alone s octets)
      reached_stop offence taken = all_of (turn_found (Err offence) taken)

      pub is_whole : k * field_octets s + field_octets s ≤ length octets
      is_whole = ltb-false _ _ (not_held _ fits)

      pub reached_next : (r : Progress) → StepTaken s w least k (k * field_octets s) (field_at s octets w.original) (field_at s octets k) (Ok r) → Reached (k + 1) r.walk r.least
      reached_next r taken =
          let going = still_going e in
          let before = defects_before s octets k in
          let ahead : k * field_octets s + field_octets s ≡ (k + 1) * field_octets s = omega (arith, add-mul k 1 (field_octets s), one-mul (field_octets s)) in
          record {
            within = omega arith;
            whole = omega (arith, is_whole);
            walk = ap (λ (r : Progress). r.walk) taken.next ∙ ap (λ (w : Walk). after w k (field_at s octets k)) here.walk
                ∙ sym (ap (walk_at s octets) (add-one k) ∙ walk_next s octets k going);
            least' = ap (λ (r : Progress). r.least) taken.next
                ∙ rw (here.walk, here.least') (sym (ap (behind_all 0) (ap (defects_before s octets) (add-one k) ∙ defects_next s octets k going) ∙ behind_parts 0 before _));
            going = below_more _ _ here.going going;
            rest = here.rest ∙ ap first_of (at_hand k here.within) ∙ first_behind (tests_at alone s octets k) _ (sym (turn_found (Ok r) taken));
          }

    -- ---- the end

    pub reached_end : {x : Option Found} → is_ended w ≡ true → x ≡ first_of (behind_test alone s octets k ∷ []) → x ≡ first_of (map_tests alone s octets)
    reached_end e q =
        let left : suc (data_fields s) - k ≡ suc (data_fields s - k) = omega (arith, here.within) in
        let end : is_ended (walk_at s octets k) ≡ true = ap is_ended (sym here.walk) ∙ e in
        q ∙ sym (here.rest ∙ ap (λ (n : ℕ). first_of (tests_from alone s octets k n)) left ∙ tests_stay k (data_fields s - k) end)

    -- behind the last data field of the cylinder
    pub reached_last : {x : Option Found} → data_fields s ≤ k → x ≡ first_of (last_tests w alone (k * field_octets s) (length octets)) → x ≡ first_of (map_tests alone s octets)
    unfolding pick tests_at
    reached_last {x} h q = by_end (is_ended w) refl
      where
        full : is_ended w ≡ false → tests_at alone s octets k ≡ 16 at k * field_octets s when true ∷ []
        full e = rw (still_going e, le-leb _ _ h)

        by_end : (ended : Bool) → is_ended w ≡ ended → x ≡ first_of (map_tests alone s octets)
        by_end true e = reached_end e (q ∙ rw e)
        by_end false e = q ∙ rw e (one_due (16 at k * field_octets s when true) refl ∙ all_of (sym (one_due _ refl) ∙ sym (ap first_of (full e))))

    pub last_ended : no_offence ≡ first_of (last_tests w alone (k * field_octets s) (length octets)) → is_ended w ≡ true
    unfolding pick
    last_ended q = by_end (is_ended w) refl
      where
        by_end : (ended : Bool) → is_ended w ≡ ended → is_ended w ≡ true
        by_end true e = e
        by_end false e = absurd (true≢false (not_held (16 at k * field_octets s when true) (q ∙ rw e)))

    pub ends_at : is_ended w ≡ true → EndsAt s octets k w
    ends_at e =
        let last : k + (data_fields s - k) ≡ data_fields s = omega (arith, here.within) in
        let end : is_ended (walk_at s octets k) ≡ true = ap is_ended (sym here.walk) ∙ e in
        record {
          within = here.within;
          whole = here.whole;
          going = here.going;
          ended = end;
          walk = here.walk ∙ sym (ap (walk_at s octets) (sym last) ∙ ended_stays s octets k (data_fields s - k) end);
          defects = sym (ap (defects_before s octets) (sym last) ∙ defects_stay s octets k (data_fields s - k) end);
        }
