-- The data fields of the last cylinder, how many, how large and where, and those of a string of octets.
-- Assumes nothing.
use Prim.Native.Nat.{ℕ, zero, suc, ◌+◌, ◌*◌, ◌/◌, ◌%◌, ◌<◌, ◌≤◌}
use mathlib.Core.Path.{◌≡◌, ap₂}
use mathlib.Core.Bool.{Bool, true, false}
use mathlib.Core.List.{List, ◌++◌}
use native.Mathlib.Nat.{mod-lt, div-lt_iff_lt-mul, mul-le-mul, zero-mul, suc-mul}
use native.Mathlib.Omega.{arith}
use borrow.Author.Tests.{ltb-false}
use lib.Dec.{ltb}
use lib.ListN.{length, take, drop, length-drop}
use lib.Seq.{length-take-le, take-add}
use Rattle.laws.specs.Octets.{AllOctets}
use Rattle.laws.specs.Pick.{pick}
use Rattle.laws.proofs.Octets.{octets_taken, octets_dropped}
use Rattle.laws.proofs.Pick.{either, cases}
use Rattle.parts.specs.Setup.{within_limits}
use Rattle.parts.specs.declared.setup.Setup.{Setup}
use Rattle.parts.proofs.Bounds.{Limits, limits}
use Rattle.defects.specs.Place.{field_octets, data_fields}
use Rattle.defects.specs.Walk.{field_at}

-- ---- of the last cylinder

-- the octets in front and the CRC have room
pub some_field : (s : Setup) (k : ℕ) → k < data_fields s → 8 ≤ s.field1
unfolding data_fields
some_field s k =
    cases (λ (n : ℕ). k < n → 8 ≤ s.field1) (ltb s.field1 8) (λ narrow h. absurd (omega arith)) (λ wide h. ltb-false s.field1 8 wide)

pub few_fields : (s : Setup) → Limits s → data_fields s ≤ 8192
unfolding data_fields
few_fields s l = either (λ (n : ℕ). n ≤ 8192) (ltb s.field1 8) (omega arith) (mul-le-mul l.heads l.sectors)

-- its track is one of the cylinder's, its sector one of the track's
pub record Field (s : Setup) (k : ℕ) : Type 0 where
  pub limits : Limits s
  pub track : k / s.sectors < s.heads
  pub sector : k % s.sectors < s.sectors

below_pick : (test : Bool) (k n : ℕ) → k < pick test 0 n → k < n
unfolding pick
below_pick true k n h = omega arith
below_pick false k n h = h

pub field : (s : Setup) (k : ℕ) → within_limits s ≡ true → k < data_fields s → Field s k
unfolding data_fields
field s k w h =
    let l = limits s w in
    let few = below_pick (ltb s.field1 8) k (s.heads * s.sectors) h in
    record { limits = l; track = (div-lt_iff_lt-mul l.some_sector).1 few; sector = mod-lt k l.some_sector }

-- ---- of a string

pub field_length : (s : Setup) (octets : List ℕ) (k : ℕ) → k * field_octets s + field_octets s ≤ length octets → length (field_at s octets k) ≡ field_octets s
unfolding field_at
field_length s octets k h = length-take-le (field_octets s) (drop (k * field_octets s) octets) (simp length-drop (omega arith))

pub field_octets_lem : (s : Setup) (octets : List ℕ) (k : ℕ) → AllOctets octets → AllOctets (field_at s octets k)
unfolding field_at
field_octets_lem s octets k all = octets_taken (field_octets s) _ (octets_dropped (k * field_octets s) octets all)

-- strings with the same data fields begin alike
pub same_beginning : (s : Setup) (a b : List ℕ) (n : ℕ) → ((k : ℕ) → k < n → field_at s a k ≡ field_at s b k) → take (n * field_octets s) a ≡ take (n * field_octets s) b
unfolding field_at
same_beginning s a b zero same = rw zero-mul
same_beginning s a b (suc n) same =
    rw (suc-mul n (field_octets s), take-add (n * field_octets s) (field_octets s) a, take-add (n * field_octets s) (field_octets s) b)
    (ap₂ ◌++◌ (same_beginning s a b n (λ k h. same k (omega arith))) (same n (omega arith)))
