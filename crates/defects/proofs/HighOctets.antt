-- The octets of a word and of a long number, high first: as the library has them, and one after the other, as definitions do.
-- Assumes nothing.
use Prim.Native.Nat.{ℕ, ◌/◌, ◌%◌, ◌^◌}
use mathlib.Core.Path.{◌≡◌, refl}
use mathlib.Core.List.{[], ◌∷◌}
use native.Mathlib.Omega.{arith}
use Rattle.std.specs.Int.{w16, w32, to_be_bytes}
use Rattle.laws.specs.Octets.{octets_of}

pub word_octets_lem : (n : ℕ) → to_be_bytes w16 n ≡ octets_of 2 n
word_octets_lem n = let high : n / 256 ^ 1 % 256 ≡ n / 256 % 256 = refl in λ i. high i ∷ n % 256 ∷ []

pub long_octets : (n : ℕ) → to_be_bytes w32 n ≡ octets_of 4 n
long_octets n =
    let first : n / 256 ^ 3 % 256 ≡ n / 256 / 256 / 256 % 256 = omega arith in
    let second : n / 256 ^ 2 % 256 ≡ n / 256 / 256 % 256 = omega arith in
    let third : n / 256 ^ 1 % 256 ≡ n / 256 % 256 = refl in
    λ i. first i ∷ second i ∷ third i ∷ n % 256 ∷ []
