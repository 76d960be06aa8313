-- `bench::run::event_at` meets its contract: the record that is decoded there.
-- Assumes nothing.
use Prim.Native.Nat.{◌≤◌}
use mathlib.Core.Path.{◌≡◌, ◌∙◌}
use native.Mathlib.Omega.{arith}
use borrow.Author.Tests.{le-ltb}
use lib.ListN.{length, drop, length-drop}
use Rattle.std.specs.Prelude.{Ok}
use Rattle.laws.proofs.Rows.{none_given}
use Rattle.laws.proofs.Runs.{rest_whole}
use Rattle.refusals.proofs.OnPaper.{paper_only}
use Rattle.capture.specs.Record.{record_of, record_rows}
use Rattle.drive.specs.Batch.{event_of}
use Rattle.bench.proofs.run.event_at.Goals as goal
use Rattle.bench.proofs.run.event_at.Goals.{After-decode_record}

decoded : (c : After-decode_record) → c.decode_record.result ≡ Ok (record_of (drop c.args.at c.args.records.now))
decoded c = let a = c.args in
    let slice = drop a.at a.records.now in
    let long : 8 ≤ length slice = simp length-drop (omega arith) in
    paper_only ((rw (rest_whole a.records.now a.at) at c.decode_record.ensures.answer) ∙ rw (none_given (record_rows slice) (le-ltb (length slice) 8 long, tt)))

pub unwrap-record-requires : goal.unwrap-record-requires
unwrap-record-requires c = rw (decoded c)

pub returns : goal.returns
unfolding record_of event_of
returns c =
    let same : c.unwrap-record.result ≡ record_of (drop c.args.at c.args.records.now) = cc (decoded (goal.at.returns c).After-decode_record, c.unwrap-record.ensures) in
    rw same
