-- `hold_of` meets its contract.
-- Assumes nothing.
use Rattle.std.proofs.Common.{ne_eqb}
use Rattle.laws.specs.Pick.{pick}
use Rattle.events.specs.State.{hold_of}
use Rattle.events.proofs.state.hold_of.Goals as goal

pub returns-in-0 : goal.returns-in-0
unfolding hold_of pick
returns-in-0 c = rw c.in-0.is

pub returns-in-1 : goal.returns-in-1
unfolding hold_of pick
returns-in-1 c = rw c.in-1.is

pub returns-in_default : goal.returns-in_default
unfolding hold_of pick
returns-in_default c = rw (ne_eqb c.args.word 0 c.in_default.in_default-own.rest.0.1, ne_eqb c.args.word 1 c.in_default.in_default-own.rest.1)
