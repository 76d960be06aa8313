-- `capture::capture::has_mark` meets its contract: the four octets are compared one by one.
-- Assumes nothing.
use mathlib.Core.Bool.{and_assoc, and-true}
use native.Mathlib.Omega.{arith}
use Rattle.laws.proofs.Runs.{rest_read}
use Rattle.capture.proofs.capture.has_mark.Goals as goal

pub returns : goal.returns
returns c =
    let trailer = c.args.trailer.now in
    rw (rest_read trailer 4 4 (omega arith)) (simp (and_assoc, and-true))
