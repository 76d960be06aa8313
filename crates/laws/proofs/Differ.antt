-- What tells a wrong answer from the right one, by computation: numbers that differ, lists that differ at an index.
-- Assumes nothing.
use Prim.Native.Nat.{ℕ}
use mathlib.Core.Path.{◌≡◌, sym, ap, ◌∙◌}
use mathlib.Core.Bool.{false, true≢false}
use mathlib.Core.List.{List}
use mathlib.Core.Option.{Option, some, none}
use native.Mathlib.Omega.{arith}
use borrow.Author.Tests.{eq-eqb}
use lib.Dec.{eqb}
use lib.ListN.{get_or}

pub differ : {a b : ℕ} → eqb a b ≡ false → a ≡ b → ⊥
differ {a} {b} e h = true≢false (sym (eq-eqb a b h) ∙ e)

-- the same with both numbers written down, the wrong one first
pub told_apart : (wrong right : ℕ) → eqb wrong right ≡ false → wrong ≡ right → ⊥
told_apart wrong right = differ

pub differ_at : (i : ℕ) {xs ys : List ℕ} → eqb (get_or xs i 0) (get_or ys i 0) ≡ false → xs ≡ ys → ⊥
differ_at i {xs} {ys} e h = differ e (ap (λ (list : List ℕ). get_or list i 0) h)

-- what is absent is not there
pub absent : {A : Type 0} {B : Type 0} {x : Option B} {b : B} → x ≡ none → x ≡ some b → A
absent {x = x} {b = b} p q = let z : ◌≡◌ {A = ℕ} 0 1 = cc in absurd (omega arith)

-- two cases of an enum are never equal: `cc` proves this of them
pub never : ◌≡◌ {A = ℕ} 0 1 → ⊥
never e = omega arith
