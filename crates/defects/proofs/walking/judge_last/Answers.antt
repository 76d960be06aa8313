-- `defects::walking::judge_last` meets its contract: a map that has not ended there has no further data field.
-- Assumes nothing.
use Rattle.laws.specs.Pick.{pick}
use Rattle.laws.proofs.Pick.{told}
use Rattle.defects.proofs.walking.judge_last.Goals as goal

pub returns-then-is_ended : goal.returns-then-is_ended
unfolding pick
returns-then-is_ended c = rw (told _ _ _ c.is_ended.ensures c.if-is_ended.true) c.judge_end.ensures

pub returns : goal.returns
unfolding pick
returns c = rw (told _ _ _ c.is_ended.ensures c.if-is_ended.false) c.refuse_if.ensures
