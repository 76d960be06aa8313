-- `defects::offence::refuse_if` meets its contract.
-- Assumes nothing.
use Rattle.laws.specs.Pick.{pick}
use Rattle.defects.specs.Offence.{first_of}
use Rattle.defects.proofs.offence.refuse_if.Goals as goal

pub returns-then-holds : goal.returns-then-holds
unfolding first_of pick
returns-then-holds c = rw c.if-holds.true

pub returns : goal.returns
unfolding first_of pick
returns c = rw c.if-holds.false
