-- `pantoglide::map_calls::pg_decode_map` meets its contract: what the map tells, or its first offence.
-- Assumes nothing.
use Rattle.pantoglide.proofs.Defects.{map_told, map_not_told}
use Rattle.pantoglide.proofs.map_calls.pg_decode_map.Goals as goal

pub returns-in-Ok : goal.returns-in-Ok
returns-in-Ok c = map_told c.in-Ok.ensures.answer c.in-Ok.ensures.slice

pub returns-in-Err : goal.returns-in-Err
returns-in-Err c = map_not_told _ c.in-Err.ensures.answer c.in-Err.ensures.slice c.from.ensures
