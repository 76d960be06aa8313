-- M-101: "Compare it in one walk that stops at the first difference."
use Rattle.std.specs.Prelude.{◌≡◌, ℕ, suc, ◌<◌, ◌≤◌, ◌↔◌, List, [], ◌∷◌, length, take, ◌==◌, ◌≢◌, slice_index}
use Rattle.laws.specs.Lists.{same_list}
use Rattle.laws.specs.Pick.{pick}

-- How many words from the front are the same.
unfoldable pub alike : List ℕ → List ℕ → ℕ
alike [] ys = 0
alike (x ∷ xs) [] = 0
alike (x ∷ xs) (y ∷ ys) = pick (x == y) (suc (alike xs ys)) 0

-- The index of the first difference, or the whole length: the words before it are the same, and short of the end the words at it differ.
pub record StopsAt (xs ys : List ℕ) (n : ℕ) : Type 0 where
  pub within : n ≤ length xs
  pub before : take n xs ≡ take n ys
  pub there : n < length xs → slice_index xs n ≢ slice_index ys n

pub record OneWalk : Type 0 where
  -- A walk that stops there has gone over as many words as are alike, and it stops nowhere else.
  pub stops : (xs ys : List ℕ) → length xs ≡ length ys → (n : ℕ) → StopsAt xs ys n ↔ (n ≡ alike xs ys)
  -- Two runs of one length are the same words exactly when all of them are alike,
  pub same : (xs ys : List ℕ) → length xs ≡ length ys → (xs ≡ ys) ↔ (alike xs ys ≡ length xs)
  -- and so says the test that goes word for word.
  pub tested : (xs ys : List ℕ) → length xs ≡ length ys → same_list xs ys ≡ (alike xs ys == length xs)
  -- Of runs that differ in words 1 and 2 it is not 2, the later difference, though that too would say that they differ,
  pub went_on : 2 ≡ alike (5 ∷ 6 ∷ 7 ∷ []) (5 ∷ 8 ∷ 9 ∷ []) → ⊥
  -- and not 3, their length.
  pub saw_none : 3 ≡ alike (5 ∷ 6 ∷ 7 ∷ []) (5 ∷ 8 ∷ 9 ∷ []) → ⊥
