-- `pantoglide::map_calls::pg_encode_map` meets its contract: the map, or the refusal.
-- Assumes nothing.
use Rattle.pantoglide.proofs.Defects.{map_made, map_not_made}
use Rattle.pantoglide.proofs.map_calls.pg_encode_map.Goals as goal

pub returns-in-Ok : goal.returns-in-Ok
returns-in-Ok c = map_made c.in-Ok.ensures

pub returns-in-Err : goal.returns-in-Err
returns-in-Err c = map_not_made c.in-Err.ensures c.from.ensures
