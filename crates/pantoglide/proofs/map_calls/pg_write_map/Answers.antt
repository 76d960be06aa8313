-- `pantoglide::map_calls::pg_write_map` meets its contract: the map in its places, or the refusal.
-- Assumes nothing.
use Rattle.pantoglide.proofs.Defects.{map_put}
use Rattle.pantoglide.proofs.map_calls.pg_write_map.Goals as goal

pub returns : goal.returns
returns c = map_put c.write_map.ensures c.told.ensures
