-- `capture::encoding::lacks_room` meets its contract: each test says on which side of the sum the room is.
-- Assumes nothing.
use Prim.Native.Nat.{◌+◌, ◌-◌}
use mathlib.Core.Path.{sym}
use native.Mathlib.Omega.{arith}
use borrow.Author.Tests.{lt-ltb}
use Rattle.laws.proofs.Tests.{same_test_lem}
use Rattle.capture.proofs.encoding.lacks_room.Goals as goal

pub returns-then-room-lt-TRAILER_LENGTH : goal.returns-then-room-lt-TRAILER_LENGTH
returns-then-room-lt-TRAILER_LENGTH c = let a = c.args in sym (lt-ltb a.room (a.notes + a.records + 8) (omega arith))

pub returns-then-left-notes : goal.returns-then-left-notes
returns-then-left-notes c = let a = c.args in sym (lt-ltb a.room (a.notes + a.records + 8) (omega arith))

pub returns : goal.returns
returns c =
    let a = c.args in
    same_test_lem (a.room - 8 - a.notes) a.records a.room (a.notes + a.records + 8) (λ h. omega arith) (λ h. omega arith)
