-- `work` meets its contract.
-- Assumes nothing.
use Rattle.events.proofs.Batches.{refused_all, refused_quietly}
use Rattle.events.proofs.batch.work.Goals as goal

pub each-requires : goal.each-requires
each-requires c = (c.requires, c.in-Ok.ensures)

pub returns-then-not-telling : goal.returns-then-not-telling
returns-then-not-telling c =
    let quiet = c.if-not-telling.true in
    rw (quiet, c.requires.quiet quiet) (refused_quietly _ _ _ _ _ _ c.requires.long c.in-Err.ensures)

pub returns-else-not-telling : goal.returns-else-not-telling
returns-else-not-telling c =
    rw (c.if-not-telling.false) (refused_all _ _ _ _ _ _ _ c.requires.long c.in-Err.ensures c.refuse_all.ensures)
