-- The division of `crc_of` is linear: the remainder of a sum without carry is the sum of the remainders, a step and an octet at a time.
-- Assumes nothing.
use Prim.Native.Nat.{ℕ, zero, suc, ◌+◌, ◌-◌, ◌*◌, ◌/◌, ◌%◌, ◌^◌, ◌<◌}
use mathlib.Core.Path.{◌≡◌, refl, sym, ap, ◌∙◌}
use mathlib.Core.List.{List, [], ◌∷◌, ◌++◌}
use native.Mathlib.Omega.{arith}
use borrow.Author.Tests.{leb-true, leb-false, eqb-true, eqb-false}
use lib.Dec.{leb, eqb}
use lib.Bits.{bit_and, and_high, and_le_l, xor_add_and, xor_zero_r, xor_lt, xor_block, xor_shifted, xor_shr, xor_mod}
use lib.Pow.{high_ones}
use Rattle.laws.specs.Pick.{pick}
use Rattle.laws.specs.Octets.{bit}
use Rattle.laws.proofs.Pick.{cases}
use Rattle.laws.proofs.Lists.{every_below_lem}
use Rattle.defects.specs.Crc.{changed_at, subtracted, divided, after_bits, remainder_after}
use Rattle.defects.proofs.Xor.{◌⊕◌, sum_assoc, exchange}

-- ---- a step of the division

-- a coefficient that changes over is a power that is added
changed : (power n : ℕ) → changed_at power n ≡ n ⊕ 2 ^ power
changed power n =
    let one : 2 ^ (1 + power) - 2 ^ power ≡ 2 ^ power = omega (arith, high_ones 1 power) in
    let digit : bit_and n (2 ^ power) ≡ n / 2 ^ power % 2 * 2 ^ power = rw one at (and_high n 1 power) in
    let sum = xor_add_and n (2 ^ power) in
    cases (λ (m : ℕ). m ≡ n ⊕ 2 ^ power) (bit power n)
    (λ set. omega (arith, rw (eqb-true (n / 2 ^ power % 2) 1 set) at digit, and_le_l n (2 ^ power)))
    (λ clear. let zero-digit : n / 2 ^ power % 2 ≡ 0 = omega (arith, eqb-false (n / 2 ^ power % 2) 1 clear) in omega (arith, rw zero-digit at digit))

less_divisor : (n : ℕ) → subtracted n ≡ n ⊕ 0x8005
less_divisor n = simp (changed 15, changed 2, changed 0, sum_assoc)

divided_is : (n : ℕ) → n < 2 ^ 17 → divided n ≡ n % 2 ^ 16 ⊕ n / 2 ^ 16 * 0x8005
divided_is n h =
    cases (λ (m : ℕ). m ≡ n % 2 ^ 16 ⊕ n / 2 ^ 16 * 0x8005) (leb (2 ^ 16) n)
    (λ over. let o = leb-true (2 ^ 16) n over in
    let low : n % 2 ^ 16 ≡ n - 2 ^ 16 = omega arith in
    let high : n / 2 ^ 16 ≡ 1 = omega arith in
    rw (low, high) (less_divisor (n - 2 ^ 16)))
    (λ under. let u = leb-false (2 ^ 16) n under in
    let low : n % 2 ^ 16 ≡ n = omega arith in
    let high : n / 2 ^ 16 ≡ 0 = omega arith in
    rw (low, high) (sym (xor_zero_r n)))

divided_lt : (n : ℕ) → n < 2 ^ 17 → divided n < 2 ^ 16
divided_lt n h = rw (divided_is n h) (xor_lt 16 (n % 2 ^ 16) (n / 2 ^ 16 * 0x8005) (omega arith) (omega arith))

times_divisor : (h k : ℕ) → h < 2 → k < 2 → (h ⊕ k) * 0x8005 ≡ h * 0x8005 ⊕ k * 0x8005
times_divisor zero k hh hk = refl
times_divisor (suc zero) zero hh hk = refl
times_divisor (suc zero) (suc zero) hh hk = refl
times_divisor (suc zero) (suc (suc k)) hh hk = absurd (omega arith)
times_divisor (suc (suc h)) k hh hk = absurd (omega arith)

divided_sum : (a b : ℕ) → a < 2 ^ 17 → b < 2 ^ 17 → divided (a ⊕ b) ≡ divided a ⊕ divided b
divided_sum a b ha hb =
    rw (divided_is (a ⊕ b) (xor_lt 17 a b ha hb), divided_is a, divided_is b, xor_mod a b 16, xor_shr a b 16, times_divisor (a / 2 ^ 16) (b / 2 ^ 16) (omega arith) (omega arith))
    (exchange (a % 2 ^ 16) (b % 2 ^ 16) (a / 2 ^ 16 * 0x8005) (b / 2 ^ 16 * 0x8005))

-- ---- the steps of an octet

abbrev brought_down : ℕ → ℕ → ℕ → ℕ
brought_down count octet remainder = remainder * 2 + octet / 2 ^ count % 2

down_lt : (count b r : ℕ) → r < 2 ^ 16 → brought_down count b r < 2 ^ 17
down_lt count b r h = omega arith

down_sum : (count b c r s : ℕ) → brought_down count (b ⊕ c) (r ⊕ s) ≡ brought_down count b r ⊕ brought_down count c s
down_sum count b c r s =
    rw (xor_shr b c count, xor_mod (b / 2 ^ count) (c / 2 ^ count) 1) (sym (xor_block 1 r s (b / 2 ^ count % 2) (c / 2 ^ count % 2) (omega arith) (omega arith)))

bits_lt : (count b r : ℕ) → r < 2 ^ 16 → after_bits count b r < 2 ^ 16
bits_lt zero b r h = h
bits_lt (suc count) b r h = bits_lt count b (divided (brought_down count b r)) (divided_lt (brought_down count b r) (down_lt count b r h))

bits_sum : (count b c r s : ℕ) → r < 2 ^ 16 → s < 2 ^ 16 → after_bits count (b ⊕ c) (r ⊕ s) ≡ after_bits count b r ⊕ after_bits count c s
bits_sum zero b c r s hr hs = refl
bits_sum (suc count) b c r s hr hs =
    let x = brought_down count b r in
    let y = brought_down count c s in
    let hx = down_lt count b r hr in
    let hy = down_lt count c s hs in
    ap (λ (n : ℕ). after_bits count (b ⊕ c) (divided n)) (down_sum count b c r s)
    ∙ ap (after_bits count (b ⊕ c)) (divided_sum x y hx hy)
    ∙ bits_sum count b c (divided x) (divided y) (divided_lt x hx) (divided_lt y hy)

-- ---- an octet at a time

-- shut, so that no goal writes the eight steps out
pub after : ℕ → ℕ → ℕ
after remainder octet = after_bits 8 octet remainder

after_lt : (r b : ℕ) → r < 2 ^ 16 → after r b < 2 ^ 16
unfolding after
after_lt r b = bits_lt 8 b r

after_sum : (r b s c : ℕ) → r < 2 ^ 16 → s < 2 ^ 16 → after (r ⊕ s) (b ⊕ c) ≡ after r b ⊕ after s c
unfolding after
after_sum r b s c = bits_sum 8 b c r s

after_nothing : (b : ℕ) → b < 256 → after 0 b ≡ b
unfolding after pick
after_nothing b h = eqb-true (after 0 b) b (every_below_lem 256 (λ n. eqb (after 0 n) n) refl b h)

after_octet : (b : ℕ) → b < 256 → after b 0 ≡ b * 256
unfolding after pick
after_octet b h = eqb-true (after b 0) (b * 256) (every_below_lem 256 (λ n. eqb (after n 0) (n * 256)) refl b h)

-- the octet that is brought down, and an octet of the remainder
with_octet : (r b : ℕ) → r < 2 ^ 16 → b < 256 → after r b ≡ after r 0 ⊕ b
with_octet r b hr hb = rw (xor_zero_r r, after_nothing b) at (after_sum r 0 0 b hr (omega arith))

pub of_sum : (r b : ℕ) → r < 2 ^ 16 → b < 256 → after (r ⊕ b) 0 ≡ after r 0 ⊕ b * 256
of_sum r b hr hb = rw (after_octet b) at (after_sum r 0 b 0 hr (omega arith))

pub with_two : (r a b : ℕ) → r < 2 ^ 16 → a < 256 → b < 256 → after (after r a) b ≡ after (after r 0) 0 ⊕ (a * 256 + b)
with_two r a b hr ha hb =
    rw (with_octet (after r a) b (after_lt r a hr), with_octet r a, of_sum (after r 0) a (after_lt r 0 hr), ← (xor_shifted a 8 b hb))
    (sum_assoc (after (after r 0) 0) (a * 256) b)

-- ---- the remainder of octets

pub remainder_lt : (r : ℕ) (octets : List ℕ) → r < 2 ^ 16 → remainder_after r octets < 2 ^ 16
unfolding remainder_after
remainder_lt r [] h = h
remainder_lt r (b ∷ octets) h = remainder_lt (after_bits 8 b r) octets (bits_lt 8 b r h)

remainder_append : (r : ℕ) (octets more : List ℕ) → remainder_after r (octets ++ more) ≡ remainder_after (remainder_after r octets) more
unfolding remainder_after
remainder_append r [] more = refl
remainder_append r (b ∷ octets) more = remainder_append (after_bits 8 b r) octets more

pub one_behind : (octets : List ℕ) (a : ℕ) → remainder_after 0 (octets ++ (a ∷ [])) ≡ after (remainder_after 0 octets) a
unfolding remainder_after after
one_behind octets a = remainder_append 0 octets (a ∷ [])

pub two_behind : (octets : List ℕ) (a b : ℕ) → remainder_after 0 (octets ++ (a ∷ b ∷ [])) ≡ after (after (remainder_after 0 octets) a) b
unfolding remainder_after after
two_behind octets a b = remainder_append 0 octets (a ∷ b ∷ [])
