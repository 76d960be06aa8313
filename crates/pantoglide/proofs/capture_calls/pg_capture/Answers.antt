-- `pantoglide::capture_calls::pg_capture` meets its contract: where the records are, or the refusal.
-- Assumes nothing.
use Rattle.pantoglide.proofs.Captures.{found, not_found}
use Rattle.pantoglide.proofs.capture_calls.pg_capture.Goals as goal

pub returns-in-Ok : goal.returns-in-Ok
returns-in-Ok c = found c.in-Ok.ensures

pub returns-in-Err : goal.returns-in-Err
returns-in-Err c = rw c.from.ensures (not_found c.in-Err.ensures)
