-- `bench::run::put_run` meets its contract: the line that counts, then the lines of the run, on a bench drive that does power up.
-- Assumes nothing.
use Prim.Native.Nat.{ℕ}
use mathlib.Core.Path.{◌≡◌}
use mathlib.Core.List.{append_assoc}
use native.Mathlib.Omega.{arith}
use lib.ListN.{length-append}
use Rattle.drive.specs.Power.{at_rest}
use Rattle.drive.specs.Cases.{bench}
use Rattle.bench.proofs.Lines.{run_report_lem}
use Rattle.bench.proofs.Bench.{bench_is_up}
use Rattle.bench.proofs.run.put_run.Goals as goal
use Rattle.bench.proofs.run.put_run.Goals.{In-Ok}

pub put_numbered-requires : goal.put_numbered-requires
put_numbered-requires c = omega (arith, simp length-append at (rw (run_report_lem c.args.records.now) at c.requires))

rests : (c : In-Ok) → c.in-Ok.bench ≡ at_rest bench
rests c = cc (bench_is_up c.in-Ok.ensures)

pub put_lines-requires : goal.put_lines-requires
put_lines-requires c =
    rw (rests (goal.at.put_lines-requires c).In-Ok)
    (simp (c.put_numbered.ensures, length-append) (omega (arith, simp length-append at (rw (run_report_lem c.args.records.now) at c.requires))))

pub returns : goal.returns
returns c =
    rw (run_report_lem c.args.records.now) (simp (rw (rests (goal.at.returns c).In-Ok) at c.put_lines.ensures, c.put_numbered.ensures, append_assoc))

pub unreachable-requires : goal.unreachable-requires
unreachable-requires c = absurd (let z : ◌≡◌ {A = ℕ} 0 1 = cc (bench_is_up c.in-Err.ensures) in omega arith)
