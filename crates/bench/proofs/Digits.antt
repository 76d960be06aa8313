-- The decimal digits of a number: one more digit than its tenth has, and how many there are.
-- Assumes nothing.
use Prim.Native.Nat.{ℕ, zero, suc, ◌+◌, ◌/◌, ◌%◌, ◌^◌, ◌<◌, ◌≤◌}
use mathlib.Core.Path.{◌≡◌, refl, ap, ◌∙◌}
use mathlib.Core.List.{List, [], ◌∷◌, ◌++◌}
use native.Mathlib.Nat.{pow-suc, div-lt_iff_lt-mul}
use native.Mathlib.Omega.{arith}
use borrow.Author.Tests.{lt-ltb, le-ltb}
use lib.Dec.{ltb}
use lib.ListN.{length, length-append}
use Rattle.laws.specs.Pick.{pick}
use Rattle.laws.proofs.Pick.{cases, pick_alike, pick_true}
use Rattle.bench.specs.Text.{digit, decimal_within, decimal}

-- any number of steps that is not too small gives the same digits
enough : (steps more n : ℕ) → n ≤ steps → n ≤ more → decimal_within steps n ≡ decimal_within more n
unfolding decimal_within pick
enough zero zero n h k = refl
enough zero (suc more) n h k = rw (lt-ltb n 10 (omega arith))
enough (suc steps) zero n h k = rw (lt-ltb n 10 (omega arith))
enough (suc steps) (suc more) n h k =
    pick_alike (ltb n 10) (λ e. refl) (ap (λ (front : List ℕ). front ++ (digit (n % 10) ∷ [])) (enough steps more (n / 10) (omega arith) (omega arith)))

pub one_digit : (n : ℕ) → n < 10 → decimal n ≡ digit n ∷ []
unfolding decimal decimal_within pick
one_digit n h = enough n (suc n) n (omega arith) (omega arith) ∙ rw (lt-ltb n 10 h)

pub more_digits : (n : ℕ) → 10 ≤ n → decimal n ≡ decimal (n / 10) ++ (digit (n % 10) ∷ [])
unfolding decimal decimal_within pick
more_digits n h =
    enough n (suc n) n (omega arith) (omega arith)
    ∙ rw (le-ltb n 10 h) (ap (λ (front : List ℕ). front ++ (digit (n % 10) ∷ [])) (enough n (n / 10) (n / 10) (omega arith) (omega arith)))

pub tenth_size : (n : ℕ) → 10 ≤ n → length (decimal n) ≡ length (decimal (n / 10)) + 1
tenth_size n h = ap length (more_digits n h) ∙ length-append (decimal (n / 10)) (digit (n % 10) ∷ [])

-- a number below a power of ten has no more digits than that
digits_within : (steps size n : ℕ) → n < 10 ^ suc size → length (decimal_within steps n) ≤ suc size
unfolding decimal_within
digits_within zero size n h = omega arith
digits_within (suc steps) zero n h = rw (lt-ltb n 10 (omega arith), pick_true) (omega arith)
digits_within (suc steps) (suc size) n h =
    cases (λ (text : List ℕ). length text ≤ suc (suc size)) (ltb n 10) (λ e. omega arith)
    (λ e. let h' : n / 10 < 10 ^ suc size = (div-lt_iff_lt-mul {k = 10} (omega arith)).1 (rw pow-suc at h) in
    omega (arith, digits_within steps size (n / 10) h', length-append (decimal_within steps (n / 10)) (digit (n % 10) ∷ [])))

pub decimal_size : (size n : ℕ) → n < 10 ^ suc size → length (decimal n) ≤ suc size
unfolding decimal
decimal_size size n h = digits_within n size n h
