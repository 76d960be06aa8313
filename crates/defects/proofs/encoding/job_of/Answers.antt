-- `defects::encoding::job_of` meets its contract: a map that can be encoded has sets that fit a word.
-- Assumes nothing.
use native.Mathlib.Omega.{arith}
use Rattle.laws.specs.Pick.{pick}
use Rattle.defects.proofs.EncodeRows.{planned}
use Rattle.defects.proofs.Plans.{plan}
use Rattle.defects.proofs.encoding.job_of.Goals as goal

pub returns-then-defects-is_encodable : goal.returns-then-defects-is_encodable
unfolding pick
returns-then-defects-is_encodable c = let wrong = rw c.is_encodable.ensures at c.if-defects-is_encodable.true in rw wrong

pub overflow_cast-result : goal.overflow_cast-result
overflow_cast-result c =
    let p = plan (planned c.requires.0 c.requires.1 (rw c.is_encodable.ensures at c.if-defects-is_encodable.false)) in
    omega (arith, p.fields, p.few)

pub returns : goal.returns
unfolding pick
returns c = let right = rw c.is_encodable.ensures at c.if-defects-is_encodable.false in rw right
