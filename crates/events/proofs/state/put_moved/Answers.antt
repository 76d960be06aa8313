-- `put_moved` meets its contract: fourteen stores behind the set-up.
-- Assumes nothing.
use Rattle.std.proofs.Common.{refl, arith, length-set}
use lib.Seq.{sets-eq}
use Rattle.events.specs.State.{moving_words, moved_to}
use Rattle.events.proofs.state.put_moved.Goals as goal

pub bounds-state-8 : goal.bounds-state-8
bounds-state-8 c = simp length-set (omega arith)

pub bounds-state-9 : goal.bounds-state-9
bounds-state-9 c = simp length-set (omega arith)

pub bounds-state-10 : goal.bounds-state-10
bounds-state-10 c = simp length-set (omega arith)

pub bounds-state-11 : goal.bounds-state-11
bounds-state-11 c = simp length-set (omega arith)

pub bounds-state-12 : goal.bounds-state-12
bounds-state-12 c = simp length-set (omega arith)

pub bounds-state-13 : goal.bounds-state-13
bounds-state-13 c = simp length-set (omega arith)

pub bounds-state-14 : goal.bounds-state-14
bounds-state-14 c = simp length-set (omega arith)

pub bounds-state-15 : goal.bounds-state-15
bounds-state-15 c = simp length-set (omega arith)

pub bounds-state-16 : goal.bounds-state-16
bounds-state-16 c = simp length-set (omega arith)

pub bounds-state-17 : goal.bounds-state-17
bounds-state-17 c = simp length-set (omega arith)

pub bounds-state-18 : goal.bounds-state-18
bounds-state-18 c = simp length-set (omega arith)

pub bounds-state-19 : goal.bounds-state-19
bounds-state-19 c = simp length-set (omega arith)

pub bounds-state-20 : goal.bounds-state-20
bounds-state-20 c = simp length-set (omega arith)

pub shape_of-state : goal.shape_of-state
shape_of-state c = simp length-set refl

pub returns : goal.returns
unfolding moved_to moving_words
returns c =
    rw (c.hold_word-held.ensures, c.pending_word-octets0.ensures, c.pending_word-octets1.ensures) (sets-eq (moving_words c.args.drive) c.args.state.now 7 (omega arith))
