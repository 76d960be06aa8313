-- `capture::capture::notes` meets its contract: the octets before the first record, or none.
-- Assumes nothing.
use mathlib.Core.Path.{sym}
use Rattle.capture.proofs.Decoding.{whole, whole_parts, no_parts}
use Rattle.capture.proofs.capture.notes.Goals as goal

pub returns-in-Ok : goal.returns-in-Ok
returns-in-Ok c = record { notes = sym (whole_parts (whole c.in-Ok.ensures)).0 }

pub returns-in-Err : goal.returns-in-Err
returns-in-Err c = record { notes = sym (no_parts c.in-Err.ensures).0 }
