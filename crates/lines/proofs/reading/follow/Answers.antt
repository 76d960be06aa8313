-- `follow` meets its contract.
-- Assumes nothing.
use mathlib.Core.Path.{sym, ap, ◌∙◌}
use Rattle.lines.specs.Follower.{is_reached}
use Rattle.lines.proofs.Reached.{reached_throughout}
use Rattle.lines.proofs.ReadSoFar.{read_none, read_one, all_left, no_room}
use Rattle.lines.proofs.reading.follow.Goals as goal

pub returns-then-answers-trace : goal.returns-then-answers-trace
returns-then-answers-trace c = no_room _ _ _ c.if-answers-trace.true

pub loop-i-init : goal.loop-i-init
loop-i-init c = read_none _ _ _ c.if-answers-trace.false

pub step_known-followed-requires : goal.step_known-followed-requires
step_known-followed-requires c = c.is_reached-reached.ensures.answer ∙ sym (ap is_reached c.loop-i.invariant.reached ∙ reached_throughout _ _)

pub loop-i-preserved : goal.loop-i-preserved
loop-i-preserved c =
    let said = c.step_known-followed.ensures in
    rw (c.octet.ensures.answer, said.answer, said.follower) (read_one _ _ _ _ _ _ c.loop-i-test.true c.loop-i.invariant)

pub returns : goal.returns
returns c = all_left _ _ _ _ _ _ c.loop-i-test.false c.loop-i.invariant
