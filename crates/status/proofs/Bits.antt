-- Bits of an octet: what a mask leaves of it, and what bits that were put together say.
-- Assumes nothing.
use Prim.Native.Nat.{ℕ, zero, suc, ◌+◌, ◌*◌, ◌/◌, ◌%◌, ◌^◌, ◌-◌, ◌<◌}
use mathlib.Core.Path.{◌≡◌, refl, sym, ap, ◌∙◌}
use mathlib.Core.Bool.{Bool, true, false, not}
use mathlib.Core.List.{[], ◌∷◌}
use native.Mathlib.Nat.{zero-mul, one-mul}
use native.Mathlib.Omega.{arith}
use borrow.Author.Tests.{ne_eqb}
use lib.Bits.{bit_and, and_high}
use lib.Dec.{eqb}
use lib.Pow.{pow_pos}
use Rattle.laws.specs.Pick.{pick}
use Rattle.laws.specs.Octets.{bit}
use Rattle.status.specs.Response.{bit_when, bits_of}

abbrev digit : Bool → ℕ
digit true = 1
digit false = 0

digit_small : (test : Bool) → digit test < 2
digit_small true = omega arith
digit_small false = omega arith

digit_is : (n : ℕ) → n < 2 → digit (eqb n 1) ≡ n
digit_is zero h = refl
digit_is (suc zero) h = refl
digit_is (suc (suc n)) h = absurd (omega arith)

bit_when_lem : (k : ℕ) (test : Bool) → bit_when k test ≡ digit test * 2 ^ k
unfolding pick
bit_when_lem k true = sym (one-mul (2 ^ k))
bit_when_lem k false = sym (zero-mul (2 ^ k))

-- ---- what a mask leaves

bit_weight : (k n : ℕ) → bit_when k (bit k n) ≡ n / 2 ^ k % 2 * 2 ^ k
bit_weight k n = bit_when_lem k (bit k n) ∙ ap (λ (d : ℕ). d * 2 ^ k) (digit_is (n / 2 ^ k % 2) (omega arith))

bits_76 : (n : ℕ) → n / 64 % 4 * 64 ≡ bits_of (7 ∷ 6 ∷ []) n
bits_76 n = rw (bit_weight 7 n, bit_weight 6 n) (omega arith)

bits_54 : (n : ℕ) → n / 16 % 4 * 16 ≡ bits_of (5 ∷ 4 ∷ []) n
bits_54 n = rw (bit_weight 5 n, bit_weight 4 n) (omega arith)

halves : (n : ℕ) → n / 16 % 16 * 16 ≡ n / 64 % 4 * 64 + n / 16 % 4 * 16
halves n = omega arith

pub mask_two : (n : ℕ) → bit_and n 0xC0 ≡ bits_of (7 ∷ 6 ∷ []) n
mask_two n = and_high n 2 6 ∙ bits_76 n

pub mask_four : (n : ℕ) → bit_and n 0xF0 ≡ bits_of (7 ∷ 6 ∷ 5 ∷ 4 ∷ []) n
mask_four n = and_high n 4 4 ∙ halves n ∙ rw (bits_76 n, bits_54 n) (omega arith)

digit_set : (n weight : ℕ) → n < 2 → 0 < weight → not (eqb (n * weight) 0) ≡ eqb n 1
digit_set zero weight h p = rw zero-mul
digit_set (suc zero) weight h p = rw (one-mul, ne_eqb weight 0 (omega arith))
digit_set (suc (suc n)) weight h p = absurd (omega arith)

-- `n & 0x80 != 0` is bit 7: `mask_bit 7 n`
pub mask_bit : (k n : ℕ) → not (eqb (bit_and n (2 ^ (1 + k) - 2 ^ k)) 0) ≡ bit k n
mask_bit k n = rw (and_high n 1 k) (digit_set (n / 2 ^ k % 2) (2 ^ k) (omega arith) (pow_pos k))

-- ---- what bits that were put together say

bit_is : (k n : ℕ) (test : Bool) → n / 2 ^ k % 2 ≡ digit test → bit k n ≡ test
bit_is k n true e = rw e
bit_is k n false e = rw e

pub two_bits : (a b : Bool) → let n = bit_when 7 a + bit_when 6 b in (bit 7 n ≡ a) × (bit 6 n ≡ b)
two_bits a b =
    rw (bit_when_lem 7 a, bit_when_lem 6 b)
    (let n = digit a * 2 ^ 7 + digit b * 2 ^ 6 in
    let p = digit_small a in
    let q = digit_small b in
    (bit_is 7 n a (omega arith), bit_is 6 n b (omega arith)))

pub four_bits : (a b c d : Bool) → let n = bit_when 7 a + bit_when 6 b + bit_when 5 c + bit_when 4 d in (bit 7 n ≡ a) × (bit 6 n ≡ b) × (bit 5 n ≡ c) × (bit 4 n ≡ d)
four_bits a b c d =
    rw (bit_when_lem 7 a, bit_when_lem 6 b, bit_when_lem 5 c, bit_when_lem 4 d)
    (let n = digit a * 2 ^ 7 + digit b * 2 ^ 6 + digit c * 2 ^ 5 + digit d * 2 ^ 4 in
    let p = digit_small a in
    let q = digit_small b in
    let r = digit_small c in
    let s = digit_small d in
    (bit_is 7 n a (omega arith), bit_is 6 n b (omega arith), bit_is 5 n c (omega arith), bit_is 4 n d (omega arith)))
