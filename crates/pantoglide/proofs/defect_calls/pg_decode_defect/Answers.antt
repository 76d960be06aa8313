-- `pantoglide::defect_calls::pg_decode_defect` meets its contract: the four numbers, or the refusal.
-- Assumes nothing.
use Rattle.pantoglide.proofs.Defects.{defect_told, defect_not_told}
use Rattle.pantoglide.proofs.defect_calls.pg_decode_defect.Goals as goal

pub returns-in-Ok : goal.returns-in-Ok
returns-in-Ok c = defect_told c.in-Ok.ensures

pub returns-in-Err : goal.returns-in-Err
returns-in-Err c = defect_not_told c.in-Err.ensures c.from.ensures
