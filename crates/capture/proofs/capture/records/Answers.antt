-- `capture::capture::records` meets its contract: the octets from the first record to the trailer, or none.
-- Assumes nothing.
use mathlib.Core.Path.{sym}
use Rattle.capture.proofs.Decoding.{whole, whole_parts, no_parts}
use Rattle.capture.proofs.capture.records.Goals as goal

pub overflow_sub-result : goal.overflow_sub-result
overflow_sub-result c = (whole c.in-Ok.ensures).long

pub returns-in-Ok : goal.returns-in-Ok
returns-in-Ok c = record { records = sym (whole_parts (whole c.in-Ok.ensures)).1 }

pub returns-in-Err : goal.returns-in-Err
returns-in-Err c = record { records = sym (no_parts c.in-Err.ensures).1 }
