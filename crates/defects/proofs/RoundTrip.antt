-- An encoded map is decoded without an offence, and tells the value that was encoded: `specs/RoundTrip` proved.
-- Assumes nothing.
use Prim.Native.Nat.{ℕ, zero, suc, ◌+◌, ◌-◌, ◌*◌, ◌/◌, ◌%◌, ◌≤◌, ◌<◌}
use mathlib.Core.Path.{◌≡◌, refl, ap}
use mathlib.Core.Bool.{Bool, true, false, ◌&&◌, false≢true, and-false}
use mathlib.Core.List.{List, ◌++◌}
use native.Mathlib.Nat.{add-zero, le_trans, mul-le-mul_right}
use native.Mathlib.Omega.{arith}
use borrow.Author.Tests.{le-ltb, lt-leb, ltb-true, ltb-false}
use lib.Dec.{eqb, ltb}
use lib.ListN.{length}
use Rattle.std.specs.Prelude.{Ok}
use Rattle.laws.specs.Pick.{pick}
use Rattle.laws.proofs.Pick.{not_f}
use Rattle.parts.specs.Setup.{within_limits}
use Rattle.parts.specs.declared.setup.Setup.{Setup}
use Rattle.defects.specs.Offence.{no_offence, first_of}
use Rattle.defects.specs.Defect.{behind_all}
use Rattle.defects.specs.Field.{is_ignored}
use Rattle.defects.specs.Place.{field_octets, data_fields}
use Rattle.defects.specs.Judging.{field_tests}
use Rattle.defects.specs.Walk.{is_ended, field_at, tests_at, tests_from, map_tests}
use Rattle.defects.specs.Decoding.{decode_tests, defects_of, map_of, decoded_in}
use Rattle.defects.specs.Encoding.{Value, data_field, map_octets}
use Rattle.defects.specs.RoundTrip.{tells_of, MapRoundTrip}
use Rattle.defects.specs.declared.defect.Defect.{Defect}
use Rattle.defects.specs.declared.walk.Walk.{Walk}
use Rattle.defects.proofs.Offences.{Passed, end, next, none_found, both}
use Rattle.defects.proofs.EncodableValue.{sets, Encodable, encodable}
use Rattle.defects.proofs.EncodedMap.{Begins, length-map, map_begins, map_alone}
use Rattle.defects.proofs.EncodedWalk.{StandsAt, within_set, before_set, original_due, not_ended, is_ended_lem, track_told, not_ignored, original_at, at_original, at_second, at_third, behind_end}
use Rattle.defects.proofs.EncodedTests.{original_passed, copy_passed}

-- ---- the tests at a data field

-- one that the map has
due_passed : (alone : Bool) (s : Setup) (octets : List ℕ) (k : ℕ) (w : Walk) (defects : List Defect) (field : List ℕ)
    → StandsAt s octets k w defects → field_at s octets k ≡ field → is_ended w ≡ false → is_ignored field ≡ false
    → k < data_fields s → k * field_octets s + field_octets s ≤ length octets
    → Passed (field_tests s w (behind_all 0 defects) (k * field_octets s) (field_at s octets w.original) field) → Passed (tests_at alone s octets k)
unfolding tests_at pick
due_passed alone s octets k w defects field r f on read few long p =
    rw (r.walk, r.listed, on, lt-leb (data_fields s) k few, f, read) (next (le-ltb (length octets) _ long) p)

-- one behind its end
nothing_follows : (alone : Bool) (start size : ℕ) → (alone ≡ true → size ≤ start) → (alone && ltb start size) ≡ false
nothing_follows true start size h = le-ltb start size (h refl)
nothing_follows false start size h = refl

ended_passed : (alone : Bool) (s : Setup) (octets : List ℕ) (k : ℕ) (w : Walk) (defects : List Defect)
    → StandsAt s octets k w defects → is_ended w ≡ true → (alone ≡ true → length octets ≤ k * field_octets s) → Passed (tests_at alone s octets k)
unfolding tests_at pick
ended_passed alone s octets k w defects r over none = rw (r.walk, over) (next (nothing_follows alone (k * field_octets s) (length octets) none) end)

-- ---- all of them, in a string that begins with a map, and ends with it if it is to stand alone

module _ (s : Setup) (v : Value) (e : Encodable s v) (octets : List ℕ) (b : Begins s v octets) where
  whole_there : (k : ℕ) → k < 3 * sets s v → k * field_octets s + field_octets s ≤ length octets
  whole_there k h = omega (arith, mul-le-mul_right {m = suc k} (field_octets s) h, b.long)

  at_end : StandsAt s octets (data_fields s) (before_set s v (sets s v)) v.defects
  at_end =
      let sum : 3 * sets s v + (data_fields s - 3 * sets s v) ≡ data_fields s = omega (arith, e.room) in
      rw sum at (behind_end s v e octets b (data_fields s - 3 * sets s v))

  tells : map_of s octets ≡ tells_of v
  tells = let (cylinder, head) = track_told s v (sets s v) e.some_set in rw (at_end.walk, at_end.listed, cylinder, head)

  module _ (alone : Bool) (only : alone ≡ true → length octets ≤ 3 * sets s v * field_octets s) where
    original_tested : (set : ℕ) → set < sets s v → Passed (tests_at alone s octets (3 * set))
    unfolding pick
    original_tested set h =
        due_passed alone s octets (3 * set) (before_set s v set) _ (data_field s v set 0) (at_original s v e octets b set (omega arith))
        (original_at s v e octets b set h) (not_ended s v set h) (not_ignored s v e set 0 (omega arith)) (omega (arith, e.room)) (whole_there (3 * set) (omega arith))
        (rw (original_due s v set) (original_passed s v e set (3 * set * field_octets s) h))

    copy_tested : (set copy : ℕ) (defects : List Defect) → set < sets s v → copy < 3 → eqb copy 0 ≡ false
        → StandsAt s octets (3 * set + copy) (within_set s v set copy) defects → Passed (tests_at alone s octets (3 * set + copy))
    unfolding pick
    copy_tested set copy defects h c later r =
        due_passed alone s octets (3 * set + copy) (within_set s v set copy) defects (data_field s v set copy) r
        (b.fields set copy h c) (rw (later, and-false (eqb (set + 1) (sets s v)))) (not_ignored s v e set copy c) (omega (arith, e.room)) (whole_there (3 * set + copy) (omega arith))
        (rw (later, original_at s v e octets b set h) (copy_passed s v e set ((3 * set + copy) * field_octets s) copy))

    in_set : (set copy : ℕ) → set < sets s v → copy < 3 → Passed (tests_at alone s octets (3 * set + copy))
    in_set set zero h c = rw add-zero (original_tested set h)
    in_set set (suc zero) h c = copy_tested set 1 _ h c refl (at_second s v e octets b set h)
    in_set set (suc (suc zero)) h c = copy_tested set 2 _ h c refl (at_third s v e octets b set h)
    in_set set (suc (suc (suc copy))) h c = absurd (omega arith)

    each_passed : (k : ℕ) → k ≤ data_fields s → Passed (tests_at alone s octets k)
    each_passed k h = by_test (ltb k (3 * sets s v)) refl
      where
        by_test : (test : Bool) → ltb k (3 * sets s v) ≡ test → Passed (tests_at alone s octets k)
        by_test true t =
            let before = ltb-true k (3 * sets s v) t in
            let split : 3 * (k / 3) + k % 3 ≡ k = omega arith in
            rw split at (in_set (k / 3) (k % 3) (omega arith) (omega arith))
        by_test false t =
            let behind = ltb-false k (3 * sets s v) t in
            let split : 3 * sets s v + (k - 3 * sets s v) ≡ k = omega arith in
            let there = rw split at (behind_end s v e octets b (k - 3 * sets s v)) in
            ended_passed alone s octets k _ _ there (is_ended_lem s v (sets s v) e.some_set refl)
            (λ a. le_trans (only a) (mul-le-mul_right (field_octets s) behind))

    all_passed : (k count : ℕ) → k + count ≤ suc (data_fields s) → Passed (tests_from alone s octets k count)
    unfolding tests_from
    all_passed k zero h = end
    all_passed k (suc count) h = both (each_passed k (omega arith)) (all_passed (suc k) count (omega arith))

    pub map_passed : Passed (map_tests alone s octets)
    map_passed = all_passed 0 (suc (data_fields s)) (omega arith)

-- ---- the two laws

-- with anything behind the map
pub told_behind : (s : Setup) (v : Value) (octets : List ℕ) → Encodable s v → Begins s v octets
    → (first_of (map_tests false s octets) ≡ no_offence) × (map_of s octets ≡ tells_of v) × (defects_of s octets ≡ v.defects)
told_behind s v octets e b = (none_found (map_passed s v e octets b false (λ a. absurd (false≢true a))), tells s v e octets b, (at_end s v e octets b).listed)

-- the map alone
told_alone : (s : Setup) (v : Value) (lent : List ℕ) → within_limits s ≡ true → Encodable s v → length (map_octets s v) / 3 ≤ length lent
    → (decoded_in s (map_octets s v) lent ≡ Ok (tells_of v)) × (defects_of s (map_octets s v) ≡ v.defects)
unfolding pick
told_alone s v lent w e room =
    let octets = map_octets s v in
    let b = map_alone s v e.field1 in
    let only : length octets ≤ 3 * sets s v * field_octets s = omega (arith, length-map s v e.field1) in
    let map = map_passed s v e octets b true (λ a. only) in
    let free : first_of (decode_tests s octets lent) ≡ no_offence = none_found (next (not_f (within_limits s) w) (next (le-ltb (length lent) (length octets / 3) room) map)) in
    (rw free (ap Ok (tells s v e octets b)), (at_end s v e octets b).listed)

pub map_round_trip : MapRoundTrip
map_round_trip =
    record {
      decode_encode = λ s v lent w d f room. told_alone s v lent w (encodable s v w d f) room;
      decode_behind = λ s v rest w d f. let e = encodable s v w d f in told_behind s v (map_octets s v ++ rest) e (map_begins s v e.field1 rest);
    }
