-- No second answer: two values that satisfy the equation that a call promises are equal.
-- Assumes nothing.
use mathlib.Core.Path.{◌≡◌, sym, ◌∙◌}

pub answer_only : {A : Type 0} {answer r s : A} → r ≡ answer → s ≡ answer → r ≡ s
answer_only p q = p ∙ sym q
