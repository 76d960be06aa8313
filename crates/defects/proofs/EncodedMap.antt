-- Where the data fields of an encoded map are: copy c of set i is data field 3 i + c of every string that begins with the map.
-- Assumes nothing.
use Prim.Native.Nat.{ℕ, zero, suc, ◌+◌, ◌-◌, ◌*◌, ◌≤◌, ◌<◌}
use mathlib.Core.Path.{◌≡◌}
use mathlib.Core.List.{List, [], ◌++◌, append_assoc, append-nil}
use native.Mathlib.Nat.{zero-mul, one-mul, two-mul}
use native.Mathlib.Omega.{arith}
use lib.ListN.{length, take, drop, length-append}
use lib.Seq.{take_at, drop_at, drop-drop}
use Rattle.parts.specs.declared.setup.Setup.{Setup}
use Rattle.defects.specs.Place.{field_octets}
use Rattle.defects.specs.Walk.{field_at}
use Rattle.defects.specs.Encoding.{Value, data_field, sets_from, map_octets}
use Rattle.defects.proofs.EncodableValue.{sets}
use Rattle.defects.proofs.Bodies.{length_field}

-- A string of octets that begins with the map of a value, data field by data field.
pub record Begins (s : Setup) (v : Value) (octets : List ℕ) : Type 0 where
  pub fields : (set copy : ℕ) → set < sets s v → copy < 3 → field_at s octets (3 * set + copy) ≡ data_field s v set copy
  pub long : 3 * sets s v * field_octets s ≤ length octets

-- one of three pieces that are as long
piece : (n : ℕ) (pieces : ℕ → List ℕ) (rest : List ℕ) → ((i : ℕ) → length (pieces i) ≡ n) → (i : ℕ) → i < 3
    → take n (drop (i * n) (pieces 0 ++ (pieces 1 ++ (pieces 2 ++ rest)))) ≡ pieces i
piece n pieces rest long zero h = rw zero-mul (take_at (pieces 0) (pieces 1 ++ (pieces 2 ++ rest)) n (long 0))
piece n pieces rest long (suc zero) h =
    rw (one-mul, drop_at (pieces 0) (pieces 1 ++ (pieces 2 ++ rest)) n (long 0)) (take_at (pieces 1) (pieces 2 ++ rest) n (long 1))
piece n pieces rest long (suc (suc zero)) h =
    rw (two-mul n, ← (drop-drop n n (pieces 0 ++ (pieces 1 ++ (pieces 2 ++ rest)))), drop_at (pieces 0) (pieces 1 ++ (pieces 2 ++ rest)) n (long 0), drop_at (pieces 1) (pieces 2 ++ rest) n (long 1))
    (take_at (pieces 2) rest n (long 2))
piece n pieces rest long (suc (suc (suc i))) h = absurd (omega arith)

module _ (s : Setup) (v : Value) (field1 : 8 ≤ s.field1) where
  abbrev three : ℕ → List ℕ
  three set = data_field s v set 0 ++ data_field s v set 1 ++ data_field s v set 2

  length_three : (set : ℕ) → length (three set) ≡ 3 * field_octets s
  length_three set = simp (length-append, length_field s v set) (omega arith)

  length-sets : (set count : ℕ) → length (sets_from s v set count) ≡ 3 * count * field_octets s
  unfolding sets_from
  length-sets set zero = omega arith
  length-sets set (suc count) =
      omega (arith, length-append (three set) (sets_from s v (suc set) count), length_three set, length-sets (suc set) count)

  pub length-map : length (map_octets s v) ≡ 3 * sets s v * field_octets s
  unfolding map_octets
  length-map = length-sets 0 (sets s v)

  -- behind so many sets of n come the others
  sets_behind : (n : ℕ) (rest : List ℕ) (set left : ℕ) → set + left ≡ n → drop (3 * set * field_octets s) (sets_from s v 0 n ++ rest) ≡ sets_from s v set left ++ rest
  unfolding sets_from
  sets_behind n rest zero left e = let all : left ≡ n = omega arith in rw (zero-mul, all)
  sets_behind n rest (suc set) left e =
      let octets = sets_from s v 0 n ++ rest in
      let size = field_octets s in
      let sum : 3 * suc set * size ≡ 3 * set * size + 3 * size = omega arith in
      let before = sets_behind n rest set (suc left) (omega arith) in
      rw (sum, ← (drop-drop (3 * size) (3 * set * size) octets), before, append_assoc (three set) (sets_from s v (suc set) left) rest)
      (drop_at (three set) (sets_from s v (suc set) left ++ rest) (3 * size) (length_three set))

  field_of_map : (rest : List ℕ) (set copy : ℕ) → set < sets s v → copy < 3 → field_at s (map_octets s v ++ rest) (3 * set + copy) ≡ data_field s v set copy
  unfolding field_at map_octets sets_from
  field_of_map rest set copy h c =
      let size = field_octets s in
      let octets = map_octets s v ++ rest in
      let left = sets s v - suc set in
      let sum : (3 * set + copy) * size ≡ 3 * set * size + copy * size = omega arith in
      let behind = sets_from s v (suc set) left ++ rest in
      let before = sets_behind (sets s v) rest set (suc left) (omega arith) in
      rw (sum, ← (drop-drop (copy * size) (3 * set * size) octets), before)
      (simp append_assoc (piece size (data_field s v set) behind (λ i. length_field s v set i field1) copy c))

  pub map_begins : (rest : List ℕ) → Begins s v (map_octets s v ++ rest)
  map_begins rest = record { fields = field_of_map rest; long = omega (arith, length-append (map_octets s v) rest, length-map) }

  pub map_alone : Begins s v (map_octets s v)
  map_alone = rw append-nil at (map_begins [])
