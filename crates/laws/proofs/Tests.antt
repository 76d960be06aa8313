-- Joined tests taken apart.
-- Assumes nothing.
use Prim.Native.Nat.{ℕ, ◌<◌, ◌≤◌}
use mathlib.Core.Path.{◌≡◌, refl, sym}
use mathlib.Core.Bool.{Bool, true, false, ◌&&◌, ◌||◌, false≢true, true≢false}
use borrow.Author.Tests.{lt-ltb, le-ltb, ltb-true, ltb-false, eq-eqb, ne_eqb, eqb-true, eqb-false}
use lib.Dec.{ltb, eqb}

pub and_l : (a b : Bool) → (a && b) ≡ true → a ≡ true
and_l true b e = refl
and_l false b e = e

pub and_r : (a b : Bool) → (a && b) ≡ true → b ≡ true
and_r true b e = e
and_r false b e = absurd (false≢true e)

pub or_l : (a b : Bool) → (a || b) ≡ false → a ≡ false
or_l true b e = e
or_l false b e = refl

pub or_r : (a b : Bool) → (a || b) ≡ false → b ≡ false
or_r true b e = absurd (true≢false e)
or_r false b e = e

pub ruleset joined = (and_l, and_r, or_l, or_r)

-- two tests that say the same
pub same_test_lem : (a b c d : ℕ) → (a < b → c < d) → (b ≤ a → d ≤ c) → ltb a b ≡ ltb c d
same_test_lem a b c d up down = by_test (ltb a b) refl
  where
    by_test : (test : Bool) → ltb a b ≡ test → test ≡ ltb c d
    by_test true e = sym (lt-ltb c d (up (ltb-true a b e)))
    by_test false e = sym (le-ltb c d (down (ltb-false a b e)))

pub same_equation : (a b c d : ℕ) → (a ≡ b → c ≡ d) → (c ≡ d → a ≡ b) → eqb a b ≡ eqb c d
same_equation a b c d there back = by_test (eqb a b) refl
  where
    by_test : (test : Bool) → eqb a b ≡ test → test ≡ eqb c d
    by_test true e = sym (eq-eqb c d (there (eqb-true a b e)))
    by_test false e = sym (ne_eqb c d (λ f. eqb-false a b e (back f)))
