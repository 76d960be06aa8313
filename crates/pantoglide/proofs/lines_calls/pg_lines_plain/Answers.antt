-- `pg_lines_plain` meets its contract.
-- Assumes nothing.
use Rattle.lines.specs.Turns.{read_plainly}
use Rattle.pantoglide.proofs.Lines.{none_there, one_there}
use Rattle.pantoglide.proofs.LinesRead.{no_octet, trace_told}
use Rattle.pantoglide.proofs.lines_calls.pg_lines_plain.Goals as goal

pub returns-then-is_empty : goal.returns-then-is_empty
returns-then-is_empty c = rw c.from.ensures (no_octet _ _ _ _ (none_there _ c.is_empty.ensures c.if-is_empty.true))

pub returns : goal.returns
returns c =
    let there = one_there c.args.follower.now c.is_empty.ensures c.if-is_empty.false in
    trace_told read_plainly _ _ _ there c.read_plainly-read.result (rw c.follower_in.ensures at c.read_plainly-read.ensures) c.put_last.ensures
