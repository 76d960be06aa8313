-- `defects::defect::decode_defect` meets its contract.
-- Assumes nothing.
use borrow.Author.Tests.{lt-ltb, le-ltb}
use Rattle.laws.specs.Pick.{pick}
use Rattle.defects.proofs.defect.decode_defect.Goals as goal

pub returns-then-octets-lt-ENTRY_LENGTH : goal.returns-then-octets-lt-ENTRY_LENGTH
unfolding pick
returns-then-octets-lt-ENTRY_LENGTH c = record { answer = rw (lt-ltb _ _ c.if-octets-lt-ENTRY_LENGTH.true) }

pub returns : goal.returns
unfolding pick
returns c = record { answer = rw (le-ltb _ _ c.if-octets-lt-ENTRY_LENGTH.false, c.defect_at.ensures) }
