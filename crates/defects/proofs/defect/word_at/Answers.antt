-- `defects::defect::word_at` meets its contract: two octets read as a number.
-- Assumes nothing.
use native.Mathlib.Numerals.{add-one}
use native.Mathlib.Omega.{arith}
use Rattle.laws.proofs.Runs.{run_read}
use Rattle.defects.specs.Defect.{number_at}
use Rattle.defects.proofs.defect.word_at.Goals as goal

pub returns : goal.returns
unfolding number_at
returns c = rw (run_read c.args.octets.now c.args.at 2 c.requires, ← (add-one c.args.at)) (omega (arith, c.from_be_bytes.ensures))
