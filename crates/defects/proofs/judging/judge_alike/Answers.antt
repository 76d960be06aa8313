-- `defects::judging::judge_alike` meets its contract: octets that are alike are no offence, and of others the first is looked for.
-- Assumes nothing.
use mathlib.Core.Path.{sym}
use Rattle.defects.proofs.judging.judge_alike.Goals as goal

pub returns-then-is_alike : goal.returns-then-is_alike
returns-then-is_alike c = sym (c.is_alike.ensures _ c.if-is_alike.true)
