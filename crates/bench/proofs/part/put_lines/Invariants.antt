-- `bench::part::put_lines` meets its contract: at each turn, what stands there and what is left to write are the whole.
-- Assumes nothing.
use Prim.Native.Nat.{◌+◌, ◌*◌}
use mathlib.Core.Path.{◌≡◌}
use mathlib.Core.List.{◌++◌}
use lib.ListN.{drop}
use Rattle.bench.specs.Told.{told_lines}
use Rattle.bench.proofs.Told.{told_left}
use Rattle.bench.proofs.part.put_lines.Given as goal

abbrev pub invariant-loop-i : goal.invariant-loop-i
invariant-loop-i l =
    l.text.items ++ told_left l.told.records.now l.told.from l.told.count l.told.answers.now l.told.gaps.now l.i
    ≡ l.initial.text.items ++ told_lines (l.told.from + 1) l.told.count (drop (8 * l.told.from) l.told.records.now) l.told.answers.now l.told.gaps.now
