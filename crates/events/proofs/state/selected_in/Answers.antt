-- `selected_in` meets its contract.
-- Assumes nothing.
use Rattle.std.proofs.Common.{get_or, arith, le-ltb, lt-ltb}
use Rattle.laws.specs.Pick.{pick}
use Rattle.events.specs.State.{selected_in}
use Rattle.events.proofs.state.selected_in.Goals as goal

pub returns-then-state-le-LAST_HOLD : goal.returns-then-state-le-LAST_HOLD
unfolding selected_in pick
returns-then-state-le-LAST_HOLD c = rw (lt-ltb (get_or c.args.state.now 9 0) 3 (omega arith))

pub returns : goal.returns
unfolding selected_in pick
returns c = rw (le-ltb (get_or c.args.state.now 9 0) 3 (omega arith))
