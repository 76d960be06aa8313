-- `pg_replay` meets its contract.
-- Assumes nothing.
use Rattle.pantoglide.proofs.Replays.{no_number, replay_ran, replay_refused}
use Rattle.pantoglide.proofs.replay.pg_replay.Goals as goal

pub returns-then-ran-lt1 : goal.returns-then-ran-lt1
returns-then-ran-lt1 c = rw c.from.ensures (no_number _ _ _ _ _ _ _ _ _ c.if-ran-lt1.true)

pub returns-in-Ok : goal.returns-in-Ok
returns-in-Ok c = replay_ran c.if-ran-lt1.false c.in-Ok.ensures

pub returns-in-Err : goal.returns-in-Err
returns-in-Err c = rw c.from-in-Err.ensures (replay_refused c.if-ran-lt1.false c.in-Err.ensures)
