-- `bench::run::put_lines` meets its contract: at each turn, what stands there and what is left to write are the whole.
-- Assumes nothing.
use Prim.Native.Nat.{◌+◌, ◌/◌}
use mathlib.Core.Path.{◌≡◌, ap, ◌∙◌}
use mathlib.Core.List.{◌++◌, append_assoc}
use native.Mathlib.Omega.{arith}
use lib.ListN.{length, length-append}
use Rattle.drive.specs.Run.{machine}
use Rattle.drive.specs.Batch.{events_of}
use Rattle.bench.specs.Line.{line_of, owner_line}
use Rattle.bench.specs.Run.{lines_of_run}
use Rattle.bench.proofs.Lines.{left, left_next, left_none, left_all}
use Rattle.bench.proofs.run.put_lines.Goals as goal
use Rattle.bench.proofs.run.put_lines.Goals.{After-handle-outcome, At-loop-i}

pub loop-i-init : goal.loop-i-init
loop-i-init c =
    let a = c.args in
    rw (left_all a.records.now (machine a.bench a.sectors.now a.staging.now))

ending : (c : At-loop-i) → let start = c.args in
    let records = start.records.now in
    c.loop-i.i ≡ length records / 8
    → c.loop-i.text.items ++ owner_line c.loop-i.drive.holding.owner ≡ start.text.now.items ++ lines_of_run 1 (machine start.bench start.sectors.now start.staging.now) (events_of records)
ending c = λ e. let records = c.args.records.now in
    rw (left_none records (length records / 8) c.loop-i.i (machine c.loop-i.drive c.loop-i.sectors c.loop-i.staging) e) at c.loop-i.invariant

going : (c : After-handle-outcome) → let start = c.args in
    let records = start.records.now in
    c.loop-i.text.items
    ++ (line_of (c.loop-i.i + 1) c.event_at-event.result.port c.handle-outcome.result.answer
    ++ left records (length records / 8) (c.loop-i.i + 1) (machine c.handle-outcome.result.drive c.handle-outcome.new.sectors c.handle-outcome.new.staging))
    ≡ start.text.now.items ++ lines_of_run 1 (machine start.bench start.sectors.now start.staging.now) (events_of records)
going c = let records = c.args.records.now in
    rw (left_next records (length records / 8) c.loop-i.i c.loop-i-test.true c.event_at-event.ensures c.handle-outcome.ensures) at c.loop-i.invariant

pub put_line-requires : goal.put_line-requires
put_line-requires c =
    let whole = simp length-append at (ap length (going (goal.at.put_line-requires c).After-handle-outcome)) in
    omega (arith, c.requires)

pub loop-i-preserved : goal.loop-i-preserved
loop-i-preserved c = rw (c.put_line.ensures, append_assoc) (going (goal.at.loop-i-preserved c).After-handle-outcome)

pub put_owner-requires : goal.put_owner-requires
put_owner-requires c =
    let whole = simp length-append at (ap length ((ending (goal.at.put_owner-requires c).At-loop-i) (omega arith))) in
    omega (arith, c.requires)

pub returns : goal.returns
returns c = c.put_owner.ensures ∙ (ending (goal.at.returns c).At-loop-i) (omega arith)
