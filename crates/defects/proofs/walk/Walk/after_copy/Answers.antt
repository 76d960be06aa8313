-- `defects::walk::Walk::after_copy` meets its contract: after the third of a set the next set is awaited, otherwise the next copy.
-- Assumes nothing.
use borrow.Author.Tests.{eq-eqb, ne_eqb}
use Rattle.laws.specs.Pick.{pick}
use Rattle.defects.proofs.walk.Walk.after_copy.Goals as goal

pub returns-then-self-eq-LAST_COPY : goal.returns-then-self-eq-LAST_COPY
unfolding pick
returns-then-self-eq-LAST_COPY c = rw (eq-eqb _ _ c.if-self-eq-LAST_COPY.true)

pub returns : goal.returns
unfolding pick
returns c = rw (ne_eqb _ _ c.if-self-eq-LAST_COPY.false)
