-- `specs/Copies` proved: behind copy 0 of a set the walk goes on until both other copies are passed, and what it remembers stays.
-- Assumes nothing.
use Prim.Native.Nat.{ℕ, zero, suc, ◌+◌, ◌-◌, ◌<◌, ◌≤◌}
use mathlib.Core.Path.{◌≡◌, refl, sym, ap, ◌∙◌}
use mathlib.Core.Bool.{Bool, true, false, false≢true}
use mathlib.Core.List.{List}
use native.Mathlib.Nat.{le_refl}
use native.Mathlib.Omega.{arith}
use borrow.Author.Tests.{eqb-true}
use lib.Dec.{eqb}
use Rattle.laws.specs.Pick.{pick}
use Rattle.laws.proofs.Tests.{and_l, and_r}
use Rattle.parts.specs.declared.setup.Setup.{Setup}
use Rattle.defects.specs.Offence.{no_offence, first_of}
use Rattle.defects.specs.Field.{front_of, is_ignored}
use Rattle.defects.specs.Place.{data_fields}
use Rattle.defects.specs.Walk.{is_ended, after_original, after_copy, field_at, walk_at, is_original, map_tests}
use Rattle.defects.specs.Copies.{CopyOf, ThreeTimes, ToldAlike, Copies}
use Rattle.defects.specs.declared.walk.Walk.{Walk}
use Rattle.defects.proofs.WalkSteps.{begins_set, next_step, going_on_lem, past_ignored, past_original, past_copy}
use Rattle.defects.proofs.Standing.{Standing, Remembered, at_outset, in_set, behind_set, standing}
use Rattle.defects.proofs.Decoded.{Begun}
use Rattle.defects.proofs.Accepted.{length_field, whole, ended, original_at, copy_at}

-- the next data field that is not ignored: the same is due there
record NextHeard (s : Setup) (octets : List ℕ) (j : ℕ) (w : Walk) : Type 0 where
  at : ℕ
  behind : j ≤ at
  inside : at < data_fields s
  heard : is_ignored (field_at s octets at) ≡ false
  due : walk_at s octets at ≡ w

in_a_set : (s : Setup) (octets : List ℕ) (k : ℕ) (w : Walk) → (w.copy ≡ 0 → ⊥) → Standing s octets k w
    → Remembered s octets k w × (w.set ≡ (walk_at s octets w.original).set)
in_a_set s octets k w other (at_outset e) = absurd (other (ap (λ (w : Walk). w.copy) e))
in_a_set s octets k w other (in_set low high same r) = (r, same)
in_a_set s octets k w other (behind_set first next r) = absurd (other first)

record Kept (w w' : Walk) : Type 0 where
  sets : w'.sets ≡ w.sets
  cylinder : w'.cylinder ≡ w.cylinder
  head : w'.head ≡ w.head

begun_copy : (w : Walk) → Begun (after_copy w)
unfolding pick
begun_copy w = by_third (eqb w.copy 2)
  where
    by_third : (third : Bool) → pick third (w.set + 1) w.set ≡ 0 → pick {A = ℕ} third 0 2 ≡ 0 → ⊥
    by_third true none first = omega arith
    by_third false none first = omega arith

module _ (alone : Bool) (s : Setup) (octets : List ℕ) (accepted : first_of (map_tests alone s octets) ≡ no_offence) where
  -- the map does not end with a data field that is ignored
  next_heard : (count j : ℕ) → j + count ≡ data_fields s → is_ended (walk_at s octets j) ≡ false → NextHeard s octets j (walk_at s octets j)
  next_heard zero j e going = let w = whole alone s octets accepted j (omega arith) going in absurd (omega arith)
  next_heard (suc count) j e going = by_test (is_ignored (field_at s octets j)) refl (next_heard count (suc j) (omega arith))
    where
      by_test : (ignored : Bool) → is_ignored (field_at s octets j) ≡ ignored
          → (is_ended (walk_at s octets (suc j)) ≡ false → NextHeard s octets (suc j) (walk_at s octets (suc j))) → NextHeard s octets j (walk_at s octets j)
      by_test true p below =
          let stays = past_ignored s octets j going p in
          let next = below (rw stays going) in
          record { at = next.at; behind = omega (arith, next.behind); inside = next.inside; heard = next.heard; due = next.due ∙ stays }
      by_test false p below = record { at = j; behind = le_refl j; inside = omega arith; heard = p; due = refl }

  pub copy_of : (k : ℕ) → k < data_fields s → is_ended (walk_at s octets k) ≡ false → is_ignored (field_at s octets k) ≡ false
      → ((walk_at s octets k).copy ≡ 0 → ⊥) → CopyOf s octets (walk_at s octets k).original (walk_at s octets k).copy k
  copy_of k h going heard other =
      let (r, same) = in_a_set s octets k (walk_at s octets k) other (standing s octets k) in
      let passed = copy_at alone s octets accepted k (omega arith) going heard other in
      let size = length_field (whole alone s octets accepted k (omega arith) going) in
      record {
        begins = r.begins;
        behind = r.earlier;
        due = refl;
        set = same;
        heard = heard;
        number = passed.number;
        alike = λ i not-3 few. passed.alike i not-3 (rw size few);
      }

  -- within a set there is one, and it is the copy that is due
  next_copy_lem : (j : ℕ) (w : Walk) → j ≤ data_fields s → walk_at s octets j ≡ w → (w.copy ≡ 0 → ⊥) → NextHeard s octets j w
  next_copy_lem j w h e other = rw e at (next_heard (data_fields s - j) j (omega arith) (rw e (going_on_lem w other)))

  heard_copy : (j : ℕ) (w : Walk) → (w.copy ≡ 0 → ⊥) → (n : NextHeard s octets j w) → CopyOf s octets w.original w.copy n.at
  heard_copy j w other n = rw n.due at (copy_of n.at n.inside (rw n.due (going_on_lem w other)) n.heard (rw n.due other))

  three_times : (first : ℕ) → first < data_fields s → is_original (walk_at s octets first) (field_at s octets first) ≡ true → ThreeTimes s octets first
  unfolding front_of pick
  three_times first h begins =
      let w = after_original (walk_at s octets first) first (front_of (field_at s octets first)) in
      let second = next_copy_lem (suc first) w (omega arith) (past_original s octets first begins) (λ e. omega arith) in
      let due = past_copy s octets second.at second.heard (rw second.due (λ e. omega arith)) ∙ ap after_copy second.due in
      let third = next_copy_lem (suc second.at) (after_copy w) (omega (arith, second.inside)) due (λ e. omega arith) in
      record {
        number = (original_at alone s octets accepted first (omega arith) begins).front.copy;
        second = second.at;
        third = third.at;
        in_order = third.behind;
        inside = third.inside;
        is_second = heard_copy (suc first) w (λ e. omega arith) second;
        is_third = heard_copy (suc second.at) (after_copy w) (λ e. omega arith) third;
      }

  -- ---- what a set tells stays

  kept_original : (k : ℕ) → k < data_fields s → is_original (walk_at s octets k) (field_at s octets k) ≡ true → Begun (walk_at s octets k)
      → Kept (walk_at s octets k) (after_original (walk_at s octets k) k (front_of (field_at s octets k)))
  kept_original k h begins begun =
      let (going, heard, first) = begins_set (walk_at s octets k) (field_at s octets k) begins in
      let (sets, cylinder, head) = (original_at alone s octets accepted k (omega arith) begins).front.follows (λ none. begun none (eqb-true _ _ first)) in
      record { sets = sets; cylinder = cylinder; head = head }

  kept_next : (k : ℕ) → k < data_fields s → Begun (walk_at s octets k) → Kept (walk_at s octets k) (walk_at s octets (suc k)) × Begun (walk_at s octets (suc k))
  unfolding pick
  kept_next k h begun =
      let w = walk_at s octets k in
      let same : Kept w w = record { sets = refl; cylinder = refl; head = refl } in
      next_step (λ (w' : Walk). Kept w w' × Begun w') s octets k (λ end. (same, begun)) (λ going ignored. (same, begun))
      (λ begins. (kept_original k h begins begun, λ none first. omega arith))
      (λ going heard other. (record { sets = refl; cylinder = refl; head = refl }, begun_copy w))

  kept_to_end : (count k : ℕ) → k + count ≡ data_fields s → Begun (walk_at s octets k) → Kept (walk_at s octets k) (walk_at s octets (data_fields s))
  kept_to_end zero k e begun = let here : data_fields s ≡ k = omega arith in rw here (record { sets = refl; cylinder = refl; head = refl })
  kept_to_end (suc count) k e begun =
      let (step, begun') = kept_next k (omega arith) begun in
      let rest = kept_to_end count (suc k) (omega arith) begun' in
      record { sets = rest.sets ∙ step.sets; cylinder = rest.cylinder ∙ step.cylinder; head = rest.head ∙ step.head }

  told : (first : ℕ) → first < data_fields s → is_original (walk_at s octets first) (field_at s octets first) ≡ true → ToldAlike s octets first
  told first h begins =
      let past = past_original s octets first begins in
      let kept = rw past at (kept_to_end (data_fields s - suc first) (suc first) (omega arith) (rw past (λ none again. omega arith))) in
      record {
        sets = sym kept.sets;
        set = (original_at alone s octets accepted first (omega arith) begins).front.set;
        cylinder = sym kept.cylinder;
        head = sym kept.head;
      }

  sets_whole : ((walk_at s octets (data_fields s)).copy ≡ 0) × ((walk_at s octets (data_fields s)).set ≡ (walk_at s octets (data_fields s)).sets)
  sets_whole = by_standing (walk_at s octets (data_fields s)) (ended alone s octets accepted) (standing s octets (data_fields s))
    where
      by_standing : (w : Walk) → is_ended w ≡ true → Standing s octets (data_fields s) w → (w.copy ≡ 0) × (w.set ≡ w.sets)
      by_standing w e (at_outset o) = absurd (false≢true (ap (λ (w : Walk). w.last) (sym o) ∙ and_l w.last _ e))
      by_standing w e (in_set low high same r) = let none : w.copy ≡ 0 = eqb-true _ _ (and_r w.last _ e) in absurd (omega arith)
      by_standing w e (behind_set first next r) =
          let front = (original_at alone s octets accepted w.original (omega (arith, r.earlier)) r.begins).front in
          let all : (front_of (field_at s octets w.original)).sets ≡ (walk_at s octets w.original).set + 1 =
          eqb-true _ _ (sym front.last ∙ sym r.last ∙ and_l w.last _ e) in
          (first, omega (arith, r.sets))

pub copies : Copies
copies = record { three_copies = three_times; only_copies = copy_of; told_alike = told; whole_sets = sets_whole }
