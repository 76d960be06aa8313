-- `words_at` meets its contract.
-- Assumes nothing.
use Rattle.std.proofs.Common.{arith, rules}
use Rattle.laws.specs.Pick.{pick}
use Rattle.events.proofs.coming.words_at.Goals as goal

pub overflow_cast-result : goal.overflow_cast-result
overflow_cast-result c = omega (arith, c.shared_slice_known-1.given c.args.at)

pub returns-then-passes : goal.returns-then-passes
unfolding pick
returns-then-passes c = (rw c.if-passes.true, omega (arith, c.shared_slice_known-1.given c.args.at))

pub returns : goal.returns
unfolding pick
returns c = (rw c.if-passes.false, search rules)
