-- `is_misheld` meets its contract.
-- Assumes nothing.
use Rattle.std.proofs.Common.{◌≡◌, Bool, true, false, not, refl, eq-eqb, ne_eqb}
use mathlib.Core.Bool.{beq}
use Rattle.laws.specs.Pick.{pick}
use Rattle.laws.proofs.Pick.{pick_true}
use Rattle.events.specs.Unsound.{is_misheld}
use Rattle.events.proofs.judge.is_misheld.Goals as goal

-- two tests that differ
differ : (a b : Bool) → not (beq a b) ≡ pick a (not b) b
unfolding pick
differ true true = refl
differ true false = refl
differ false true = refl
differ false false = refl

pub returns-then-hold-owner : goal.returns-then-hold-owner
unfolding is_misheld
returns-then-hold-owner c = rw c.if-hold-owner.true

pub returns-then-selected-eq-NOBODY : goal.returns-then-selected-eq-NOBODY
unfolding is_misheld
returns-then-selected-eq-NOBODY c = rw (c.if-hold-owner.false, eq-eqb _ _ c.if-selected-eq-NOBODY.true, ← (differ _ _), pick_true)

pub returns : goal.returns
unfolding is_misheld pick
returns c = rw (c.if-hold-owner.false, ne_eqb _ _ c.if-selected-eq-NOBODY.false)
