-- `pg_lines` meets its contract.
-- Assumes nothing.
use Rattle.lines.specs.Reading.{step_by_step}
use Rattle.pantoglide.proofs.Lines.{none_there, one_there}
use Rattle.pantoglide.proofs.LinesRead.{no_octet, trace_told}
use Rattle.pantoglide.proofs.lines_calls.pg_lines.Goals as goal

pub returns-then-is_empty : goal.returns-then-is_empty
returns-then-is_empty c = rw c.from.ensures (no_octet _ _ _ _ (none_there _ c.is_empty.ensures c.if-is_empty.true))

pub returns : goal.returns
returns c =
    let there = one_there c.args.follower.now c.is_empty.ensures c.if-is_empty.false in
    trace_told step_by_step _ _ _ there c.follow-read.result (rw c.follower_in.ensures at c.follow-read.ensures) c.put_last.ensures
