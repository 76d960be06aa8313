-- What answers a `return` of code against a definition made of `pick`s: rules for `search`.
-- Assumes nothing.
use Prim.Native.Nat.{ℕ, ◌≤◌}
use native.Mathlib.Omega.{arith}
use mathlib.Core.Path.{◌≡◌, refl, sym, ◌∙◌}
use mathlib.Core.Bool.{Bool, true, false, not}
use borrow.Author.Tests.{lt-ltb, le-ltb, le-leb, lt-leb, eq-eqb, ne_eqb, not-true, not-false}
use Rattle.laws.specs.Pick.{pick}

pub pick_t : (A : Type 0) (test : Bool) (x a b : A) → test ≡ true → x ≡ a → x ≡ pick test a b
unfolding pick
pick_t A test x a b e p = rw e p

pub pick_f : (A : Type 0) (test : Bool) (x a b : A) → test ≡ false → x ≡ b → x ≡ pick test a b
unfolding pick
pick_f A test x a b e p = rw e p

-- what a call returned, and what the branch on it says
pub told : (r test value : Bool) → r ≡ test → r ≡ value → test ≡ value
told r test value e f = sym e ∙ f

-- a choice has what both sides have
pub either : {A : Type 0} (P : A → Type 0) (test : Bool) {x y : A} → P x → P y → P (pick test x y)
unfolding pick
either P true p q = p
either P false p q = q

-- a part is no more than the whole
pub pick_le : (test : Bool) (n : ℕ) → pick test n 0 ≤ n
unfolding pick
pick_le true n = omega arith
pick_le false n = omega arith

-- a choice seen through a function, and one by the opposite test
pub pick_map : {A B : Type 0} (f : A → B) (test : Bool) {x y : A} {x' y' : B} → x' ≡ f x → y' ≡ f y → pick test x' y' ≡ f (pick test x y)
unfolding pick
pick_map f true p q = p
pick_map f false p q = q

pub pick_not : {A : Type 0} (test : Bool) (x y : A) → pick (not test) x y ≡ pick test y x
unfolding pick
pick_not true x y = refl
pick_not false x y = refl

pub not_t : (test : Bool) → test ≡ false → not test ≡ true
not_t test e = rw e

pub not_f : (test : Bool) → test ≡ true → not test ≡ false
not_f test e = rw e

pub ruleset steps = (pick_t, pick_f, lt-ltb, le-ltb, le-leb, lt-leb, eq-eqb, ne_eqb)

-- flags: a negated one, and one that a callee returned
pub ruleset flags = (not_t, not_f, not-true, not-false, told)

-- a choice that is made, as an equation
pub pick_true : {A : Type 0} (a b : A) → pick true a b ≡ a
unfolding pick
pick_true a b = refl

pub pick_false : {A : Type 0} (a b : A) → pick false a b ≡ b
unfolding pick
pick_false a b = refl

-- a choice has what each side has when the test chose it
pub cases : {A : Type 0} (P : A → Type 0) (test : Bool) {x y : A} → (test ≡ true → P x) → (test ≡ false → P y) → P (pick test x y)
unfolding pick
cases P true yes' no' = yes' refl
cases P false yes' no' = no' refl

-- two choices whose tests never hold together can change places
pub picks_apart : {A : Type 0} (a b : Bool) (x y z : A) → (a ≡ true → b ≡ true → ⊥) → pick a x (pick b y z) ≡ pick b y (pick a x z)
unfolding pick
picks_apart true true x y z apart = absurd (apart refl refl)
picks_apart true false x y z apart = refl
picks_apart false b x y z apart = refl

-- two choices by one test that say the same where they are made
pub pick_alike : {A : Type 0} (test : Bool) {x x' y y' : A} → (test ≡ true → x ≡ x') → y ≡ y' → pick test x y ≡ pick test x' y'
unfolding pick
pick_alike true p q = p refl
pick_alike false p q = q
