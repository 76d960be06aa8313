-- Sums of coefficients, where 1 and 1 are 0: `bit_xor` is a sum without carry, whose terms can be taken in any order.
-- Assumes nothing.
use Prim.Native.Nat.{ℕ, zero, suc, ◌+◌, ◌*◌, ◌/◌, ◌%◌, ◌<◌}
use mathlib.Core.Path.{◌≡◌, refl}
use native.Mathlib.Nat.{add-zero, div-add-mod'}
use native.Mathlib.Omega.{arith}
use lib.Arith.{bin_ind}
use lib.Bits.{bit_xor, xor_comm, xor_zero_r, xor_lt, xor_block, xor_shifted}

infixl 60 ◌⊕◌
abbrev pub ◌⊕◌ : ℕ → ℕ → ℕ
a ⊕ b = bit_xor a b

digit_assoc : (x y z : ℕ) → x < 2 → y < 2 → z < 2 → x ⊕ y ⊕ z ≡ x ⊕ (y ⊕ z)
digit_assoc zero y z hx hy hz = refl
digit_assoc (suc zero) zero z hx hy hz = refl
digit_assoc (suc zero) (suc zero) zero hx hy hz = refl
digit_assoc (suc zero) (suc zero) (suc zero) hx hy hz = refl
digit_assoc (suc zero) (suc zero) (suc (suc z)) hx hy hz = absurd (omega arith)
digit_assoc (suc zero) (suc (suc y)) z hx hy hz = absurd (omega arith)
digit_assoc (suc (suc x)) y z hx hy hz = absurd (omega arith)

one_digit_more : (a b c x y z : ℕ) → x < 2 → y < 2 → z < 2 → a ⊕ b ⊕ c ≡ a ⊕ (b ⊕ c)
    → (a * 2 + x) ⊕ (b * 2 + y) ⊕ (c * 2 + z) ≡ (a * 2 + x) ⊕ ((b * 2 + y) ⊕ (c * 2 + z))
one_digit_more a b c x y z hx hy hz h =
    let xy = xor_lt 1 x y hx hy in
    let yz = xor_lt 1 y z hy hz in
    rw (xor_block 1 a b x y, xor_block 1 b c y z, xor_block 1 (a ⊕ b) c (x ⊕ y) z, xor_block 1 a (b ⊕ c) x (y ⊕ z), h, digit_assoc x y z)

pub sum_assoc : (a b c : ℕ) → a ⊕ b ⊕ c ≡ a ⊕ (b ⊕ c)
sum_assoc =
    bin_ind (λ (a : ℕ). (b c : ℕ) → a ⊕ b ⊕ c ≡ a ⊕ (b ⊕ c)) (λ b c. refl)
    (λ a ih b c. rw (div-add-mod' a 2, div-add-mod' b 2, div-add-mod' c 2) at
    (one_digit_more (a / 2) (b / 2) (c / 2) (a % 2) (b % 2) (c % 2) (omega arith) (omega arith) (omega arith) (ih (b / 2) (c / 2))))

pub exchange : (a b c d : ℕ) → (a ⊕ b) ⊕ (c ⊕ d) ≡ (a ⊕ c) ⊕ (b ⊕ d)
exchange a b c d = rw (sum_assoc a b (c ⊕ d), ← (sum_assoc b c d), xor_comm b c, sum_assoc c b d, ← (sum_assoc a c (b ⊕ d)))

-- a sum in the high octet
pub sum_high : (n b : ℕ) → n ⊕ b * 256 ≡ (n / 256 ⊕ b) * 256 ⊕ n % 256
sum_high n b =
    let low : n % 256 < 256 = omega arith in
    rw (div-add-mod' n 256, add-zero, xor_zero_r (n % 256), ← (xor_shifted (n / 256 ⊕ b) 8 (n % 256))) at (xor_block 8 (n / 256) b (n % 256) 0 low (omega arith))
