-- `pg_line` meets its contract: what the follower answers, and its octet.
-- Assumes nothing.
use Rattle.std.proofs.Common.{sym, ◌∙◌}
use Rattle.pantoglide.proofs.Lines.{none_there, one_there, no_follower, line_told, line_refused}
use Rattle.pantoglide.proofs.line.pg_line.Goals as goal
use Rattle.pantoglide.proofs.line.pg_line.Goals.{then-is_ok, else-is_ok}

pub returns-then-is_empty : goal.returns-then-is_empty
returns-then-is_empty c = rw c.from.ensures (no_follower _ _ (none_there _ c.is_empty.ensures c.if-is_empty.true))

pub returns : goal.returns
returns c =
    let there = one_there c.args.follower.now c.is_empty.ensures c.if-is_empty.false in
    let stepped = rw c.follower_in.ensures at c.step_plainly-followed.ensures in
    elim c.if-is_ok.branch [
      | then-is_ok w ↦ rw (c.octet.ensures.answer, w.follower-is, w.follower_octet.ensures) (line_told _ _ _ there stepped (sym c.is_ok.ensures.value ∙ w.if-is_ok.true))
      | else-is_ok w ↦ rw (c.octet.ensures.answer, w.follower-is) (line_refused _ _ _ there stepped (sym c.is_ok.ensures.value ∙ w.if-is_ok.false))
    ]
