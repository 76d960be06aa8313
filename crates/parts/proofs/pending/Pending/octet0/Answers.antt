-- `octet0` meets its contract.
-- Assumes nothing.
use Rattle.parts.specs.Pending.{octet0}
use Rattle.laws.specs.Pick.{pick}
use borrow.Author.Tests.{eq-eqb, ne_eqb}
use Rattle.parts.proofs.pending.Pending.octet0.Goals as goal

-- Assumes nothing.

pub returns-then-self-eq0-2 : goal.returns-then-self-eq0-2
unfolding octet0 pick
returns-then-self-eq0-2 c = rw (eq-eqb _ _ c.if-self-eq0.true, eq-eqb _ _ c.if-self-eq0-2.true)

pub returns-then-self-eq0 : goal.returns-then-self-eq0
unfolding octet0 pick
returns-then-self-eq0 c = rw (eq-eqb _ _ c.if-self-eq0.true, ne_eqb _ _ c.if-self-eq0-2.false)

pub returns-then-self-eq0-3 : goal.returns-then-self-eq0-3
unfolding octet0 pick
returns-then-self-eq0-3 c = rw (ne_eqb _ _ c.if-self-eq0.false, eq-eqb _ _ c.if-self-eq0-3.true)

pub returns : goal.returns
unfolding octet0 pick
returns c = rw (ne_eqb _ _ c.if-self-eq0.false, ne_eqb _ _ c.if-self-eq0-3.false)
