-- `capture::capture::decode_capture` meets its contract: at each `return` the tests that led there say which row holds first, or that none does.
-- Assumes nothing.
use Prim.Native.Nat.{◌-◌, ◌%◌}
use mathlib.Core.Path.{◌≡◌, sym, ◌∙◌}
use mathlib.Core.Bool.{true, false}
use native.Mathlib.Omega.{arith}
use borrow.Author.Tests.{lt-ltb, le-ltb, eq-eqb, ne_eqb}
use lib.Dec.{ltb}
use lib.ListN.{length}
use Rattle.laws.specs.Pick.{pick}
use Rattle.capture.specs.Capture.{has_mark, distance_of}
use Rattle.capture.proofs.capture.decode_capture.Goals as goal
use Rattle.capture.proofs.capture.decode_capture.Goals.{In-Some, After-distance_of-distance, then-distance-ne0-via-then-distance-ne0, then-distance-ne0-via-else-distance-ne0+then-body-distance}

pub returns-in_default : goal.returns-in_default
unfolding pick
returns-in_default c = record { answer = rw (lt-ltb (length c.args.octets.now) 8 c.in_default.ensures.cases) }

long_enough : (c : In-Some) → ltb (length c.args.octets.now) 8 ≡ false
long_enough c = le-ltb (length c.args.octets.now) 8 (omega (arith, c.in-Some.ensures.cases.2))

distance_read : (c : After-distance_of-distance) → c.distance_of-distance.result ≡ distance_of c.args.octets.now
distance_read c = rw c.in-Some.ensures.cases.1 at c.distance_of-distance.ensures

marked : (c : After-distance_of-distance) → has_mark c.args.octets.now ≡ true
marked c = sym (rw c.in-Some.ensures.cases.1 at c.has_mark.ensures) ∙ c.if-not-has_mark.false

pub returns-then-not-has_mark : goal.returns-then-not-has_mark
unfolding pick
returns-then-not-has_mark c =
    let unmarked : has_mark c.args.octets.now ≡ false = sym (rw c.in-Some.ensures.cases.1 at c.has_mark.ensures) ∙ c.if-not-has_mark.true in
    record { answer = rw (long_enough (goal.at.returns-then-not-has_mark c).In-Some, unmarked) }

pub returns-then-distance-ne0 : goal.returns-then-distance-ne0
unfolding pick
returns-then-distance-ne0 c =
    let at = (goal.at.returns-then-distance-ne0 c).After-distance_of-distance in
    let distance = distance_read at in
    let long = long_enough (goal.at.returns-then-distance-ne0 c).In-Some in
    elim c.then-distance-ne0.branch [
      | then-distance-ne0-via-then-distance-ne0 w ↦
          let torn = ne_eqb (distance_of c.args.octets.now % 8) 0 (rw distance at w.if-distance-ne0.true) in
          record { answer = rw (long, marked at, torn) }
      | then-distance-ne0-via-else-distance-ne0+then-body-distance w ↦
          let even = eq-eqb (distance_of c.args.octets.now % 8) 0 (rw distance at w.if-distance-ne0.false) in
          let far = lt-ltb (length c.args.octets.now - 8) (distance_of c.args.octets.now) (omega (arith, c.in-Some.ensures.cases.2, distance)) in
          record { answer = rw (long, marked at, even, far) }
    ]

pub returns : goal.returns
unfolding pick
returns c =
    let at = (goal.at.returns c).After-distance_of-distance in
    let distance = distance_read at in
    let size : length c.in-Some.body.now ≡ length c.args.octets.now - 8 = omega (arith, c.in-Some.ensures.cases.2) in
    let even = eq-eqb (distance_of c.args.octets.now % 8) 0 (rw distance at c.if-distance-ne0.false) in
    let near = le-ltb (length c.args.octets.now - 8) (distance_of c.args.octets.now) (omega (arith, c.in-Some.ensures.cases.2, distance)) in
    record { answer = rw (long_enough (goal.at.returns c).In-Some, marked at, even, near, size, distance) }
