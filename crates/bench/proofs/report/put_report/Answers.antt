-- `bench::report::put_report` meets its contract: too long, refused, or the report of what is wanted.
-- Assumes nothing.
use Prim.Native.Nat.{ℕ}
use mathlib.Core.Path.{◌≡◌}
use mathlib.Core.List.{List, [], ◌++◌}
use native.Mathlib.Omega.{arith}
use borrow.Author.Tests.{lt-ltb}
use Rattle.laws.specs.Pick.{pick}
use Rattle.bench.specs.Report.{report_of}
use Rattle.bench.proofs.Captured.{report_refused, report_run, records_short, records_whole}
use Rattle.bench.proofs.Fits.{report_fits}
use Rattle.bench.proofs.report.put_report.Goals as goal
use Rattle.bench.proofs.report.put_report.Goals.{Start}

-- what is put into an empty text is the text
first : (before : List ℕ) {after : List ℕ} (part : List ℕ) → before ≡ [] → after ≡ before ++ part → after ≡ part
first before part e p = rw e at p

pub returns-then-octets-gt-LONGEST_CAPTURE : goal.returns-then-octets-gt-LONGEST_CAPTURE
unfolding report_of pick
returns-then-octets-gt-LONGEST_CAPTURE c =
    rw (lt-ltb _ _ c.if-octets-gt-LONGEST_CAPTURE.true) (first _ _ c.requires c.put.ensures)

pub put_numbered-requires : goal.put_numbered-requires
put_numbered-requires c =
    let a = c.args in
    let refused = report_refused a.wanted a.octets.now c.if-octets-gt-LONGEST_CAPTURE.false c.in-Err.ensures in
    let fits = rw refused at (report_fits a.wanted a.octets.now (λ i. (c.type_inv.octets i).fits)) in
    rw (c.requires, c.from-in-Err.ensures, c.from.ensures) (omega arith)

pub put_wanted-requires : goal.put_wanted-requires
put_wanted-requires c =
    let a = c.args in
    let found = c.in-Ok.ensures in
    let run = report_run a.wanted a.octets.now c.if-octets-gt-LONGEST_CAPTURE.false found in
    let fits = rw run at (report_fits a.wanted a.octets.now (λ i. (c.type_inv.octets i).fits)) in
    rw (c.records.ensures.records, c.requires)
    (omega arith, records_short a.octets.now found c.if-octets-gt-LONGEST_CAPTURE.false, records_whole a.octets.now found)

pub returns-in-Err : goal.returns-in-Err
returns-in-Err c =
    let a = c.args in
    rw (report_refused a.wanted a.octets.now c.if-octets-gt-LONGEST_CAPTURE.false c.in-Err.ensures) (rw (c.from-in-Err.ensures, c.from.ensures) at (first _ _ c.requires c.put_numbered.ensures))

pub returns-in-Ok : goal.returns-in-Ok
returns-in-Ok c =
    let a = c.args in
    rw (report_run a.wanted a.octets.now c.if-octets-gt-LONGEST_CAPTURE.false c.in-Ok.ensures, ← c.records.ensures.records) (first _ _ c.requires c.put_wanted.ensures)
