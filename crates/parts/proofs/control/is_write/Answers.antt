-- `is_write` meets its contract.
-- Assumes nothing.
use mathlib.Core.Path.{sym}
use Rattle.parts.proofs.ByBits.{writes_by_bits}
use Rattle.parts.proofs.control.is_write.Goals as goal

pub returns : goal.returns
returns c = sym (writes_by_bits c.args.control)
