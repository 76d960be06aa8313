-- `pantoglide::capture_calls::pg_make_capture` meets its contract: the capture put together, or the refusal.
-- Assumes nothing.
use Rattle.pantoglide.proofs.Captures.{made, not_made}
use Rattle.pantoglide.proofs.capture_calls.pg_make_capture.Goals as goal

pub returns-in-Ok : goal.returns-in-Ok
returns-in-Ok c = made c.in-Ok.ensures

pub returns-in-Err : goal.returns-in-Err
returns-in-Err c = rw c.from.ensures (not_made c.in-Err.ensures)
