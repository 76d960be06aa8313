-- The CRC-16 of the paper, X^16 + X^15 + X^2 + 1: the octets as one long number, its bits the coefficients of a polynomial, divided by that one.
use Rattle.std.specs.Prelude.{ℕ, zero, suc, ◌+◌, ◌-◌, ◌*◌, ◌/◌, ◌%◌, ◌^◌, List, [], ◌∷◌, ◌++◌, leb}
use Rattle.laws.specs.Pick.{pick}
use Rattle.laws.specs.Octets.{bit}

-- The coefficient of one power changes over: 1 and 1 are 0.
abbrev pub changed_at : ℕ → ℕ → ℕ
changed_at power n = pick (bit power n) (n - 2 ^ power) (n + 2 ^ power)

-- Less X^15 + X^2 + 1, what the divisor has below X^16.
abbrev pub subtracted : ℕ → ℕ
subtracted n = changed_at 15 (changed_at 2 (changed_at 0 n))

-- A step of the division: the next coefficient is brought down, and where X^16 appears the divisor is taken away once.
abbrev pub divided : ℕ → ℕ
divided n = pick (leb (2 ^ 16) n) (subtracted (n - 2 ^ 16)) n

-- The remainder behind the low `count` bits of one more octet, the highest of them first.
abbrev pub after_bits : ℕ → ℕ → ℕ → ℕ
after_bits zero octet remainder = remainder
after_bits (suc count) octet remainder = after_bits count octet (divided (remainder * 2 + octet / 2 ^ count % 2))

-- The remainder of the octets behind what was divided already.
unfoldable pub remainder_after : ℕ → List ℕ → ℕ
remainder_after remainder [] = remainder
remainder_after remainder (octet ∷ octets) = remainder_after (after_bits 8 octet remainder) octets

-- "is the last 2 octets in the data field": the remainder of the octets with room for these two behind them.
unfoldable pub crc_of : List ℕ → ℕ
crc_of octets = remainder_after 0 (octets ++ (0 ∷ 0 ∷ []))
