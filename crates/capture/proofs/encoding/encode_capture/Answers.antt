-- `capture::encoding::encode_capture` meets its contract: at each `return` the tests that led there say which row holds first, or that none does.
-- Assumes nothing.
use Prim.Native.Nat.{◌^◌, ◌<◌}
use mathlib.Core.Path.{◌∙◌}
use native.Mathlib.Omega.{arith}
use borrow.Author.Tests.{eq-eqb, ne_eqb, lt-leb, le-leb}
use lib.ListN.{length}
use Rattle.laws.specs.Pick.{pick}
use Rattle.laws.proofs.Pick.{told}
use Rattle.capture.specs.Encoding.{trailer_for}
use Rattle.capture.proofs.Pieces.{three_written}
use Rattle.capture.proofs.encoding.encode_capture.Goals as goal

pub returns-then-lacks_room : goal.returns-then-lacks_room
unfolding pick
returns-then-lacks_room c =
    let short = told _ _ _ c.lacks_room.ensures c.if-lacks_room.true in
    record { answer = rw short; slice = rw short }

pub returns-then-records-ne0 : goal.returns-then-records-ne0
unfolding pick
returns-then-records-ne0 c =
    let room = told _ _ _ c.lacks_room.ensures c.if-lacks_room.false in
    let torn = ne_eqb _ _ c.if-records-ne0.true in
    record { answer = rw (room, torn); slice = rw (room, torn) }

pub returns-in_default : goal.returns-in_default
unfolding pick
returns-in_default c =
    let room = told _ _ _ c.lacks_room.ensures c.if-lacks_room.false in
    let even = eq-eqb _ _ c.if-records-ne0.false in
    let far : length c.args.records.now < 256 ^ 4 → ⊥ = c.in_default.ensures in
    let long = le-leb (256 ^ 4) (length c.args.records.now) (omega arith) in
    record { answer = rw (room, even, long); slice = rw (room, even, long) }

pub returns : goal.returns
unfolding pick
returns c =
    let room = told _ _ _ c.lacks_room.ensures c.if-lacks_room.false in
    let even = eq-eqb _ _ c.if-records-ne0.false in
    let (near, distance) = c.in-Ok.ensures in
    let held = lt-leb (256 ^ 4) (length c.args.records.now) near in
    record {
      answer = rw (room, even, held);
      slice =
          rw (room, even, held)
          (c.put-3.ensures
          ∙ rw (c.put-2.ensures, c.put.ensures, c.trailer_for.ensures, distance)
          (three_written c.args.out.now c.args.notes.now c.args.records.now (trailer_for (length c.args.records.now))));
    }
