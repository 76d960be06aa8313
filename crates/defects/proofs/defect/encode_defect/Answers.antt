-- `defects::defect::encode_defect` meets its contract.
-- Assumes nothing.
use borrow.Author.Tests.{lt-ltb, le-ltb}
use Rattle.laws.specs.Pick.{pick}
use Rattle.defects.proofs.defect.encode_defect.Goals as goal

pub returns-then-octets-lt-ENTRY_LENGTH : goal.returns-then-octets-lt-ENTRY_LENGTH
unfolding pick
returns-then-octets-lt-ENTRY_LENGTH c = let short = lt-ltb _ _ c.if-octets-lt-ENTRY_LENGTH.true in record { answer = rw short; slice = rw short }

pub returns : goal.returns
unfolding pick
returns c =
    let room = le-ltb _ _ c.if-octets-lt-ENTRY_LENGTH.false in
    record { answer = rw room; slice = rw room c.write_defect.ensures }
