-- The sets of a decoded map none of whose data fields is ignored: set i begins at data field 3 i, and lists the defects behind those before it.
-- Assumes nothing.
use Prim.Native.Nat.{ℕ, zero, suc, ◌+◌, ◌-◌, ◌*◌, ◌<◌, ◌≤◌}
use mathlib.Core.Path.{◌≡◌, refl, ap, ◌∙◌}
use mathlib.Core.Bool.{Bool, true, false}
use mathlib.Core.List.{List, ◌++◌}
use native.Mathlib.Omega.{arith}
use borrow.Author.Tests.{eq-eqb}
use lib.Dec.{eqb}
use Rattle.laws.specs.Pick.{pick}
use Rattle.laws.proofs.Tests.{same_equation}
use Rattle.parts.specs.declared.setup.Setup.{Setup}
use Rattle.defects.specs.Offence.{no_offence, first_of}
use Rattle.defects.specs.Field.{front_of, is_last, is_ignored, defects_in}
use Rattle.defects.specs.Place.{data_fields}
use Rattle.defects.specs.Walk.{is_ended, after_original, after_copy, field_at, walk_at, is_original, defects_before, map_tests}
use Rattle.defects.specs.declared.walk.Walk.{Walk}
use Rattle.defects.proofs.WalkSteps.{going_on_lem, past_original, past_copy, set_listed, copy_lists_none, ended_stays}
use Rattle.defects.proofs.Thirds.{counted}
use Rattle.defects.proofs.Accepted.{whole, original_at}
use Rattle.defects.proofs.Copies.{copies}

-- ---- where the sets are

-- before set i
record Before (s : Setup) (octets : List ℕ) (i : ℕ) : Type 0 where
  set : (walk_at s octets (3 * i)).set ≡ i
  first : (walk_at s octets (3 * i)).copy ≡ 0

-- set i, in three data fields
pub record There (s : Setup) (octets : List ℕ) (i : ℕ) : Type 0 where
  pub inside : suc (suc (3 * i)) < data_fields s
  pub begins : is_original (walk_at s octets (3 * i)) (field_at s octets (3 * i)) ≡ true
  pub set : (walk_at s octets (3 * i)).set ≡ i
  pub second_heard : is_ignored (field_at s octets (suc (3 * i))) ≡ false
  pub third_heard : is_ignored (field_at s octets (suc (suc (3 * i)))) ≡ false
  -- what is due behind copy 0, copy 1 and copy 2
  pub second : walk_at s octets (suc (3 * i)) ≡ after_original (walk_at s octets (3 * i)) (3 * i) (front_of (field_at s octets (3 * i)))
  pub third : walk_at s octets (suc (suc (3 * i))) ≡ after_copy (after_original (walk_at s octets (3 * i)) (3 * i) (front_of (field_at s octets (3 * i))))
  pub next : walk_at s octets (suc (suc (suc (3 * i)))) ≡ after_copy (after_copy (after_original (walk_at s octets (3 * i)) (3 * i) (front_of (field_at s octets (3 * i)))))

module _ (alone : Bool) (s : Setup) (octets : List ℕ) (accepted : first_of (map_tests alone s octets) ≡ no_offence)
    (heard : (k : ℕ) → k < data_fields s → is_ended (walk_at s octets k) ≡ false → is_ignored (field_at s octets k) ≡ false) where
  all_sets : (walk_at s octets (data_fields s)).set ≡ (walk_at s octets (data_fields s)).sets
  all_sets = (copies.whole_sets alone s octets accepted).1

  room : 3 * (walk_at s octets (data_fields s)).set ≤ data_fields s
  room = omega (arith, (counted s octets (data_fields s)).fields)

  -- before the last of them the map goes on
  going : (i : ℕ) → i < (walk_at s octets (data_fields s)).set → (walk_at s octets (3 * i)).set ≡ i → is_ended (walk_at s octets (3 * i)) ≡ false
  going i h set = by_test (is_ended (walk_at s octets (3 * i))) refl
    where
      by_test : (end : Bool) → is_ended (walk_at s octets (3 * i)) ≡ end → is_ended (walk_at s octets (3 * i)) ≡ false
      by_test true e =
          let sum : 3 * i + (data_fields s - 3 * i) ≡ data_fields s = omega (arith, room) in
          let same = rw sum at (ended_stays s octets (3 * i) (data_fields s - 3 * i) e) in
          absurd (omega (arith, ap (λ (w : Walk). w.set) same))
      by_test false e = e

  there : (i : ℕ) → i < (walk_at s octets (data_fields s)).set → Before s octets i → There s octets i
  unfolding pick
  there i h b =
      let k = 3 * i in
      let on = going i h b.set in
      let inside = (whole alone s octets accepted k (omega (arith, room)) on).inside in
      let begins : is_original (walk_at s octets k) (field_at s octets k) ≡ true = rw (on, heard k inside on) (eq-eqb _ _ b.first) in
      let second = past_original s octets k begins in
      let other : (walk_at s octets (suc k)).copy ≡ 0 → ⊥ = rw second (λ e. omega arith) in
      let on' = going_on_lem (walk_at s octets (suc k)) other in
      let inside' = (whole alone s octets accepted (suc k) inside on').inside in
      let third = past_copy s octets (suc k) (heard (suc k) inside' on') other ∙ ap after_copy second in
      let other' : (walk_at s octets (suc (suc k))).copy ≡ 0 → ⊥ = rw third (λ e. omega arith) in
      let on'' = going_on_lem (walk_at s octets (suc (suc k))) other' in
      let inside'' = (whole alone s octets accepted (suc (suc k)) inside' on'').inside in
      record {
        inside = inside'';
        begins = begins;
        set = b.set;
        second_heard = heard (suc k) inside' on';
        third_heard = heard (suc (suc k)) inside'' on'';
        second = second;
        third = third;
        next = past_copy s octets (suc (suc k)) (heard (suc (suc k)) inside'' on'') other' ∙ ap after_copy third;
      }

  before : (i : ℕ) → i ≤ (walk_at s octets (data_fields s)).set → Before s octets i
  unfolding walk_at pick
  before zero h = record { set = refl; first = refl }
  before (suc i) h =
      let t = there i h (before i (omega arith)) in
      let e : 3 * suc i ≡ suc (suc (suc (3 * i))) = omega arith in
      let due = ap (walk_at s octets) e ∙ t.next in
      record { set = ap (λ (w : Walk). w.set) due ∙ omega (arith, t.set); first = ap (λ (w : Walk). w.copy) due }

  pub set_there : (i : ℕ) → i < (walk_at s octets (data_fields s)).set → There s octets i
  set_there i h = there i h (before i (omega arith))

  -- the last of them is the one that says so
  pub last_at : (i : ℕ) → i < (walk_at s octets (data_fields s)).set → is_last (front_of (field_at s octets (3 * i))).flags ≡ eqb (i + 1) (walk_at s octets (data_fields s)).set
  last_at i h =
      let t = set_there i h in
      let front = (original_at alone s octets accepted (3 * i) (omega (arith, room)) t.begins).front in
      let told = copies.told_alike alone s octets accepted (3 * i) (omega (arith, t.inside)) t.begins in
      front.last
      ∙ same_equation (front_of (field_at s octets (3 * i))).sets ((walk_at s octets (3 * i)).set + 1) (i + 1) (walk_at s octets (data_fields s)).set
      (λ e. omega (arith, t.set, told.sets, all_sets)) (λ e. omega (arith, t.set, told.sets, all_sets))

  pub at_end : (i : ℕ) → suc i ≡ (walk_at s octets (data_fields s)).set → is_ended (walk_at s octets (3 * suc i)) ≡ true
  unfolding pick
  at_end i e =
      let three : 3 * suc i ≡ suc (suc (suc (3 * i))) = omega arith in
      rw (three, (set_there i (omega arith)).next, last_at i (omega arith)) (rw (eq-eqb (i + 1) (walk_at s octets (data_fields s)).set (omega arith)))

  -- a set lists its defects behind those before it
  pub listed_next : (i : ℕ) → i < (walk_at s octets (data_fields s)).set → defects_before s octets (3 * suc i) ≡ defects_before s octets (3 * i) ++ defects_in (field_at s octets (3 * i))
  unfolding pick
  listed_next i h =
      let t = set_there i h in
      let three : 3 * suc i ≡ suc (suc (suc (3 * i))) = omega arith in
      ap (defects_before s octets) three
      ∙ copy_lists_none s octets (suc (suc (3 * i))) (rw t.third (λ e. omega arith))
      ∙ copy_lists_none s octets (suc (3 * i)) (rw t.second (λ e. omega arith))
      ∙ set_listed s octets (3 * i) t.begins
