-- `stage` meets its contract.
-- Assumes nothing.
use Rattle.std.proofs.Common.{arith}
use Rattle.drive.specs.Transfer.{word_staged}
use Rattle.events.specs.State.{drive_in}
use Rattle.events.proofs.Transfers.{write_moving, staging_set}
use Rattle.events.proofs.transfer.stage.Goals as goal

pub overflow_cast-moved : goal.overflow_cast-moved
unfolding drive_in
overflow_cast-moved c =
    omega (arith, (write_moving c.requires.0 c.requires.1 c.requires.2).few)

pub offset_bounds-staging-moved : goal.offset_bounds-staging-moved
unfolding drive_in
offset_bounds-staging-moved c =
    omega (arith, (write_moving c.requires.0 c.requires.1 c.requires.2).few)

pub bounds-staging-moved : goal.bounds-staging-moved
unfolding drive_in
bounds-staging-moved c =
    (write_moving c.requires.0 c.requires.1 c.requires.2).inside

pub overflow_add-moved : goal.overflow_add-moved
unfolding drive_in
overflow_add-moved c =
    omega (arith, (write_moving c.requires.0 c.requires.1 c.requires.2).few)

pub after_word-requires : goal.after_word-requires
unfolding drive_in
after_word-requires c =
    (staging_set _ _ c.requires.0, c.requires.1, c.requires.2, omega (arith, (write_moving c.requires.0 c.requires.1 c.requires.2).few))

pub returns : goal.returns
unfolding word_staged drive_in
returns c =
    c.after_word.ensures
