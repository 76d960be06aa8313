-- `is_read` meets its contract.
-- Assumes nothing.
use mathlib.Core.Path.{sym}
use Rattle.parts.proofs.ByBits.{reads_by_bits}
use Rattle.parts.proofs.control.is_read.Goals as goal

pub returns : goal.returns
returns c = sym (reads_by_bits c.args.control)
