-- `pantoglide::defect_calls::pg_map_place` meets its contract: the place, or the refusal.
-- Assumes nothing.
use Rattle.pantoglide.proofs.Defects.{place_told, place_not_told}
use Rattle.pantoglide.proofs.defect_calls.pg_map_place.Goals as goal

pub returns-in-Ok : goal.returns-in-Ok
returns-in-Ok c = place_told c.in-Ok.ensures

pub returns-in-Err : goal.returns-in-Err
returns-in-Err c = place_not_told c.in-Err.ensures c.from.ensures
