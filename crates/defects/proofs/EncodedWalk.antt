-- The walk over an encoded map: what is due at each of its data fields, the defects before each set, and that it stays where the map ends.
-- Assumes nothing.
use Prim.Native.Nat.{ℕ, zero, suc, ◌+◌, ◌*◌, ◌≤◌, ◌<◌}
use mathlib.Core.Path.{◌≡◌, refl, sym, ◌∙◌}
use mathlib.Core.Bool.{Bool, true, false, and-false}
use mathlib.Core.List.{List, [], ◌++◌, append-nil}
use native.Mathlib.Nat.{zero-mul, suc-mul, add-zero, le_refl}
use native.Mathlib.Numerals.{add-one}
use native.Mathlib.Omega.{arith}
use borrow.Author.Tests.{eq-eqb, ne_eqb}
use lib.Dec.{eqb}
use lib.Seq.{take-add, take_all}
use Rattle.laws.specs.Pick.{pick}
use Rattle.parts.specs.declared.setup.Setup.{Setup}
use Rattle.defects.specs.Field.{is_last, is_ignored, defects_in, slots}
use Rattle.defects.specs.Place.{field_octets}
use Rattle.defects.specs.Walk.{outset, is_ended, is_original, after, field_at, walk_at, defects_before}
use Rattle.defects.specs.Encoding.{Value, defects_before_set, flags_for, data_field}
use Rattle.defects.specs.declared.defect.Defect.{Defect}
use Rattle.defects.specs.declared.walk.Walk.{Walk}
use Rattle.defects.proofs.WalkSteps.{ended_stays, defects_stay}
use Rattle.defects.proofs.EncodableValue.{sets, Encodable}
use Rattle.defects.proofs.EncodedField.{front_written, defects_written, copy_told}
use Rattle.defects.proofs.EncodedMap.{Begins}

-- ---- what is due

-- behind copy 0 of a set
abbrev pub within_set : Setup → Value → ℕ → ℕ → Walk
within_set s v set copy =
    record {
      set = set;
      copy = copy;
      original = 3 * set;
      sets = sets s v;
      cylinder = v.cylinder;
      head = v.head;
      last = eqb (set + 1) (sets s v);
    }

-- before a set
abbrev pub before_set : Setup → Value → ℕ → Walk
before_set s v zero = outset
before_set s v (suc set) =
    record {
      set = set + 1;
      copy = 0;
      original = 3 * set;
      sets = sets s v;
      cylinder = v.cylinder;
      head = v.head;
      last = eqb (set + 1) (sets s v);
    }

pub set_due : (s : Setup) (v : Value) (set : ℕ) → (before_set s v set).set ≡ set
set_due s v zero = refl
set_due s v (suc set) = add-one set

pub original_due : (s : Setup) (v : Value) (set : ℕ) → (before_set s v set).copy ≡ 0
original_due s v zero = refl
original_due s v (suc set) = refl

pub not_ended : (s : Setup) (v : Value) (set : ℕ) → set < sets s v → is_ended (before_set s v set) ≡ false
not_ended s v zero h = refl
not_ended s v (suc set) h = rw (ne_eqb (set + 1) (sets s v) (λ e. omega arith))

pub is_ended_lem : (s : Setup) (v : Value) (set : ℕ) → 1 ≤ set → set ≡ sets s v → is_ended (before_set s v set) ≡ true
is_ended_lem s v zero h e = absurd (omega arith)
is_ended_lem s v (suc set) h e = rw (eq-eqb (set + 1) (sets s v) (omega arith))

pub track_told : (s : Setup) (v : Value) (set : ℕ) → 1 ≤ set → ((before_set s v set).cylinder ≡ v.cylinder) × ((before_set s v set).head ≡ v.head)
track_told s v zero h = absurd (omega arith)
track_told s v (suc set) h = (refl, refl)

-- ---- from one data field to the next

pub last_told : (last unordered : Bool) → is_last (flags_for last unordered) ≡ last
unfolding pick
last_told true true = refl
last_told true false = refl
last_told false true = refl
last_told false false = refl

module _ (s : Setup) (v : Value) (e : Encodable s v) (set : ℕ) where
  pub not_ignored : (copy : ℕ) → copy < 3 → is_ignored (data_field s v set copy) ≡ false
  not_ignored copy h = rw (copy_told s v set copy) (ne_eqb copy 0xFF (λ e. omega arith))

  after_original_lem : (w : Walk) → set < sets s v → w.copy ≡ 0 → w.set ≡ set → after w (3 * set) (data_field s v set 0) ≡ within_set s v set 1
  unfolding after pick
  after_original_lem w h c i = rw (not_ignored 0 (omega arith), c, i, front_written s v e set 0 h, last_told)

  after_second : (k : ℕ) → after (within_set s v set 1) k (data_field s v set 1) ≡ within_set s v set 2
  unfolding after pick
  after_second k = rw (not_ignored 1 (omega arith))

  after_third : (k : ℕ) → after (within_set s v set 2) k (data_field s v set 2) ≡ before_set s v (suc set)
  unfolding after pick
  after_third k = rw (not_ignored 2 (omega arith))

-- ---- the walk and the defects behind so many data fields

pub record StandsAt (s : Setup) (octets : List ℕ) (k : ℕ) (w : Walk) (defects : List Defect) : Type 0 where
  pub walk : walk_at s octets k ≡ w
  pub listed : defects_before s octets k ≡ defects

one_on : {s : Setup} {octets : List ℕ} {k : ℕ} {w : Walk} {defects : List Defect} (next : ℕ) (w' : Walk) (field : List ℕ) (defects' : List Defect)
    → next ≡ suc k → StandsAt s octets k w defects → is_ended w ≡ false → field_at s octets k ≡ field → after w k field ≡ w'
    → defects ++ pick (is_original w field) (defects_in field) [] ≡ defects' → StandsAt s octets next w' defects'
unfolding walk_at defects_before pick
one_on next w' field defects' e r on f a d =
    record { walk = rw (e, r.walk, on, f) a; listed = rw (e, r.listed, r.walk, f) d }

-- behind its end
stays : {s : Setup} {octets : List ℕ} {k : ℕ} {w : Walk} {defects : List Defect} (more : ℕ) → StandsAt s octets k w defects → is_ended w ≡ true
    → StandsAt s octets (k + more) w defects
stays {s} {octets} {k} more r end =
    let over : is_ended (walk_at s octets k) ≡ true = rw r.walk end in
    record { walk = ended_stays s octets k more over ∙ r.walk; listed = defects_stay s octets k more over ∙ r.listed }

-- a copy lists nothing anew
copy_on : {s : Setup} {octets : List ℕ} {k : ℕ} {w : Walk} {defects : List Defect} (next : ℕ) (w' : Walk) (field : List ℕ)
    → next ≡ suc k → StandsAt s octets k w defects → eqb w.copy 0 ≡ false → field_at s octets k ≡ field → after w k field ≡ w' → StandsAt s octets next w' defects
unfolding pick
copy_on {w = w} {defects = defects} next w' field e r c f a =
    one_on next w' field defects e r (rw (c, and-false w.last)) f a
    (simp (c, and-false) (append-nil defects))

module _ (s : Setup) (v : Value) (e : Encodable s v) (octets : List ℕ) (b : Begins s v octets) where
  pub original_at : (set : ℕ) → set < sets s v → field_at s octets (3 * set) ≡ data_field s v set 0
  original_at set h = rw add-zero at (b.fields set 0 h (omega arith))

  behind_original : (set : ℕ) → set < sets s v → StandsAt s octets (3 * set) (before_set s v set) (defects_before_set s v set)
      → StandsAt s octets (3 * set + 1) (within_set s v set 1) (defects_before_set s v (suc set))
  unfolding pick
  behind_original set h r =
      one_on (3 * set + 1) (within_set s v set 1) (data_field s v set 0) (defects_before_set s v (suc set)) (omega arith) r (not_ended s v set h) (original_at set h)
      (after_original_lem s v e set (before_set s v set) h (original_due s v set) (set_due s v set))
      (rw (not_ended s v set h, not_ignored s v e set 0 (omega arith), original_due s v set, defects_written s v e set 0, suc-mul set (slots (field_octets s)))
      (sym (take-add (set * slots (field_octets s)) (slots (field_octets s)) v.defects)))

  behind_second : (set : ℕ) → set < sets s v → StandsAt s octets (3 * set + 1) (within_set s v set 1) (defects_before_set s v (suc set))
      → StandsAt s octets (3 * set + 2) (within_set s v set 2) (defects_before_set s v (suc set))
  behind_second set h r =
      copy_on (3 * set + 2) (within_set s v set 2) (data_field s v set 1) (omega arith) r refl (b.fields set 1 h (omega arith)) (after_second s v e set _)

  behind_third : (set : ℕ) → set < sets s v → StandsAt s octets (3 * set + 2) (within_set s v set 2) (defects_before_set s v (suc set))
      → StandsAt s octets (3 * suc set) (before_set s v (suc set)) (defects_before_set s v (suc set))
  behind_third set h r =
      copy_on (3 * suc set) (before_set s v (suc set)) (data_field s v set 2) (omega arith) r refl (b.fields set 2 h (omega arith)) (after_third s v e set _)

  pub at_original : (set : ℕ) → set ≤ sets s v → StandsAt s octets (3 * set) (before_set s v set) (defects_before_set s v set)
  unfolding walk_at defects_before
  at_original zero h = record { walk = refl; listed = rw zero-mul }
  at_original (suc set) h = behind_third set h (behind_second set h (behind_original set h (at_original set (omega arith))))

  pub at_second : (set : ℕ) → set < sets s v → StandsAt s octets (3 * set + 1) (within_set s v set 1) (defects_before_set s v (suc set))
  at_second set h = behind_original set h (at_original set (omega arith))

  pub at_third : (set : ℕ) → set < sets s v → StandsAt s octets (3 * set + 2) (within_set s v set 2) (defects_before_set s v (suc set))
  at_third set h = behind_second set h (at_second set h)

  pub behind_end : (more : ℕ) → StandsAt s octets (3 * sets s v + more) (before_set s v (sets s v)) v.defects
  behind_end more =
      let all = take_all (sets s v * slots (field_octets s)) v.defects e.holds in
      stays more (rw all at (at_original (sets s v) (le_refl (sets s v)))) (is_ended_lem s v (sets s v) e.some_set refl)
