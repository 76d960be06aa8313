-- `put_state` meets its contract: the words that events change, and the set-up's at the front.
-- Assumes nothing.
use Rattle.std.proofs.Common.{ℕ, List, ap, ◌∙◌, arith, length-set}
use lib.Seq.{sets}
use Rattle.events.specs.State.{setup_words}
use Rattle.events.proofs.Stores.{all_written}
use Rattle.events.proofs.state.put_state.Goals as goal

pub bounds-state-1 : goal.bounds-state-1
bounds-state-1 c = simp length-set (omega arith)

pub bounds-state-2 : goal.bounds-state-2
bounds-state-2 c = simp length-set (omega arith)

pub bounds-state-3 : goal.bounds-state-3
bounds-state-3 c = simp length-set (omega arith)

pub bounds-state-4 : goal.bounds-state-4
bounds-state-4 c = simp length-set (omega arith)

pub bounds-state-5 : goal.bounds-state-5
bounds-state-5 c = simp length-set (omega arith)

pub bounds-state-6 : goal.bounds-state-6
bounds-state-6 c = simp length-set (omega arith)

pub returns : goal.returns
returns c =
    let a = c.args in
    ap (λ (l : List ℕ). sets l 0 (setup_words a.drive.setup)) c.put_moved.ensures ∙ all_written a.state.now a.drive c.requires
