-- The state's words: what a run of stores leaves.
-- Assumes nothing.
use Rattle.std.proofs.Common.{◌≡◌, ℕ, ◌≤◌, List, ◌++◌, length, take, drop, ap, ◌∙◌, append_assoc, arith, length-append, length-take-le, drop_at}
use lib.Seq.{sets}
use Rattle.laws.specs.Lists.{written_over}
use Rattle.laws.proofs.Lists.{stored}
use Rattle.drive.specs.declared.drive.Drive.{Drive}
use Rattle.events.specs.State.{setup_words, moving_words, state_words, moved_to}

-- the words that events change, and then the set-up's
pub all_written : (state : List ℕ) (d : Drive) → 23 ≤ length state → sets (moved_to state d) 0 (setup_words d.setup) ≡ written_over state (state_words d)
unfolding moved_to state_words moving_words
all_written state d h =
    let seven = length-take-le 7 state (omega arith) in
    let moved = append_assoc (take 7 state) (moving_words d) (drop 23 state) in
    let long : 7 ≤ length (moved_to state d) = rw (moved, length-append (take 7 state) (moving_words d ++ drop 23 state), seven) (omega arith) in
    stored (moved_to state d) (setup_words d.setup) long
    ∙ ap (λ (rest : List ℕ). setup_words d.setup ++ rest) (ap (drop 7) moved ∙ drop_at (take 7 state) (moving_words d ++ drop 23 state) 7 seven)
