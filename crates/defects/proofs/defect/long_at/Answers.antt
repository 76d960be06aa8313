-- `defects::defect::long_at` meets its contract: four octets read as a number.
-- Assumes nothing.
use native.Mathlib.Numerals.{towards_suc}
use native.Mathlib.Omega.{arith}
use Rattle.laws.proofs.Runs.{run_read}
use Rattle.defects.specs.Defect.{number_at}
use Rattle.defects.proofs.defect.long_at.Goals as goal

pub returns : goal.returns
unfolding number_at
returns c =
    let told = simp towards_suc at c.from_be_bytes.ensures in
    rw (run_read c.args.octets.now c.args.at 4 c.requires) (omega (arith, told))
