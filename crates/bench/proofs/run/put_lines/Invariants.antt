-- `bench::run::put_lines` meets its contract: at each turn, what stands there and what is left to write are the whole.
-- Assumes nothing.
use Prim.Native.Nat.{◌/◌}
use mathlib.Core.Path.{◌≡◌}
use mathlib.Core.List.{◌++◌}
use lib.ListN.{length}
use Rattle.drive.specs.Run.{machine}
use Rattle.drive.specs.Batch.{events_of}
use Rattle.bench.specs.Run.{lines_of_run}
use Rattle.bench.proofs.Lines.{left}
use Rattle.bench.proofs.run.put_lines.Given as goal

abbrev pub invariant-loop-i : goal.invariant-loop-i
invariant-loop-i l =
    l.text.items ++ left l.records (length l.records / 8) l.i (machine l.drive l.sectors l.staging)
    ≡ l.initial.text.items ++ lines_of_run 1 (machine l.initial.drive l.initial.sectors l.initial.staging) (events_of l.records)
