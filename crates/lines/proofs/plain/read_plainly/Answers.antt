-- `read_plainly` meets its contract: stretch behind stretch is read as the steps do, and so does the definition.
-- Assumes nothing.
use native.Mathlib.Omega.{arith}
use Rattle.std.proofs.Common.{◌≡◌, ◌+◌}
use Rattle.lines.proofs.Turns.{plainly}
use Rattle.lines.proofs.ReadSoFar.{read_none, stretch_read, all_left, no_room}
use Rattle.lines.proofs.plain.read_plainly.Goals as goal

pub returns-then-answers-trace : goal.returns-then-answers-trace
returns-then-answers-trace c = no_room _ _ _ c.if-answers-trace.true

pub loop-at-init : goal.loop-at-init
loop-at-init c = read_none _ _ _ c.if-answers-trace.false

pub loop-at-preserved : goal.loop-at-preserved
loop-at-preserved c =
    let end : c.loop-at.at + 16 ≡ c.min-end.result = omega arith in
    rw end (stretch_read _ _ _ _ _ _ _ _ _ (omega arith) (omega arith) c.loop-at.invariant c.read_stretch-last.ensures)

pub returns-else-answers-trace : goal.returns-else-answers-trace
returns-else-answers-trace c =
    rw (plainly c.args.follower c.args.trace.now)
    (all_left _ _ _ _ _ _ c.loop-at-test.false c.loop-at.invariant)

pub returns-else-answers-trace-2 : goal.returns-else-answers-trace-2
returns-else-answers-trace-2 c =
    rw (plainly c.args.follower c.args.trace.now)
    (all_left _ _ _ c.min-end.result _ _ (omega arith) (stretch_read _ _ _ _ _ _ _ _ _ (omega arith) (omega arith) c.loop-at.invariant c.read_stretch-last.ensures))
