-- `defects::place::data_fields` meets its contract: the product of two numbers of 16 bits fits.
-- Assumes nothing.
use Prim.Native.Nat.{◌≤◌}
use native.Mathlib.Nat.{mul-le-mul}
use native.Mathlib.Omega.{arith}
use Rattle.laws.proofs.Pick.{steps}
use Rattle.defects.specs.Place.{data_fields}
use Rattle.defects.proofs.place.data_fields.Goals as goal

pub returns-then-setup-lt-LEAST_FIELD_WORDS : goal.returns-then-setup-lt-LEAST_FIELD_WORDS
unfolding data_fields
returns-then-setup-lt-LEAST_FIELD_WORDS c = search steps

pub overflow_mul-result : goal.overflow_mul-result
overflow_mul-result c =
    let s = c.args.setup in
    let heads : s.heads ≤ 0xFFFF = omega arith in
    let sectors : s.sectors ≤ 0xFFFF = omega arith in
    omega (arith, mul-le-mul heads sectors)

pub returns : goal.returns
unfolding data_fields
returns c = search steps
