-- `hold_set` meets its contract.
-- Assumes nothing.
use Rattle.parts.specs.Holding.{hold_set}
use Rattle.laws.specs.Pick.{pick}
use Rattle.parts.proofs.holding.hold_set.Goals as goal

-- Assumes nothing.

pub returns-then-priority_select : goal.returns-then-priority_select
unfolding hold_set pick
returns-then-priority_select c = rw (← c.priority_hold.ensures, c.if-priority_hold.true, ← c.priority_select.ensures, c.if-priority_select.true)

pub returns-then-priority_hold : goal.returns-then-priority_hold
unfolding hold_set pick
returns-then-priority_hold c = rw (← c.priority_hold.ensures, c.if-priority_hold.true, ← c.priority_select.ensures, c.if-priority_select.false)

pub returns : goal.returns
unfolding hold_set pick
returns c = rw (← c.priority_hold.ensures, c.if-priority_hold.false)
