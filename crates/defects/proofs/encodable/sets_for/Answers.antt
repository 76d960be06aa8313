-- `defects::encodable::sets_for` meets its contract.
-- Assumes nothing.
use native.Mathlib.Omega.{arith}
use borrow.Author.Tests.{ne_eqb}
use Rattle.laws.proofs.Pick.{pick_f, steps}
use Rattle.defects.specs.Encoding.{sets_for}
use Rattle.defects.proofs.encodable.sets_for.Goals as goal

pub returns-then-each-eq0 : goal.returns-then-each-eq0
unfolding sets_for
returns-then-each-eq0 c = rw (← c.slots_each-each.ensures.0) (search steps)

pub returns : goal.returns
unfolding sets_for
returns c = rw (← c.slots_each-each.ensures.0) (pick_f _ _ _ _ _ (ne_eqb _ _ c.if-each-eq0.false) (omega arith))
