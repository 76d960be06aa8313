-- `bench::report::put_wanted` meets its contract, as it is wanted.
-- Assumes nothing.
use Rattle.bench.proofs.report.put_wanted.Goals as goal

pub put_run-requires : goal.put_run-requires
put_run-requires c =
    rw c.in-All.is at c.requires.0

pub put_part-requires : goal.put_part-requires
put_part-requires c =
    (rw c.in-Stretch.is at c.requires.0, c.requires.1, c.requires.2)

pub returns-in-All : goal.returns-in-All
returns-in-All c =
    rw c.in-All.is c.put_run.ensures

pub returns-in-Stretch : goal.returns-in-Stretch
returns-in-Stretch c =
    rw c.in-Stretch.is c.put_part.ensures
