-- `run_records` meets its contract.
-- Assumes nothing.
use Rattle.events.proofs.Batches.{worked_none}
use Rattle.events.proofs.Promises.{run_not_whole, run_room, run_short, run_worked}
use Rattle.std.proofs.Common.{true≢false, arith}
use Rattle.events.proofs.event.run_records.Goals as goal

pub returns-then-state-out : goal.returns-then-state-out
returns-then-state-out c = run_short _ _ _ _ _ c.if-state-out.true

pub returns-then-records-ne0 : goal.returns-then-records-ne0
returns-then-records-ne0 c =
    run_not_whole _ _ _ _ _ c.if-state-out.false c.if-records-ne0.true

pub returns-then-count-eq0 : goal.returns-then-count-eq0
returns-then-count-eq0 c =
    let r = run_room c.args.state.now c.args.records.now c.args.out.now c.if-state-out.false in
    run_worked _ _ _ _ _ _ _ _ _ _ c.if-state-out.false c.if-records-ne0.false (worked_none _ _ _ _ _ _ r.0 c.if-count-eq0.true)

pub work-requires : goal.work-requires
work-requires c =
    let r = run_room c.args.state.now c.args.records.now c.args.out.now c.if-state-out.false in
    record { long = r.0; some = omega (arith, c.if-count-eq0.false); whole = r.1; room = r.2; quiet = λ e. absurd (true≢false e) }

pub returns : goal.returns
returns c =
    run_worked _ _ _ _ _ _ _ _ _ _ c.if-state-out.false c.if-records-ne0.false c.work.ensures
