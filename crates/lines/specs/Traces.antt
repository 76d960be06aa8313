-- Traces of settings: which follower states they reach, and the two history rules told by the whole way instead of a mark.
use Rattle.std.specs.Prelude.{ℕ, ◌≡◌, Bool, true, false, ◌&&◌, List, [], ◌∷◌, Result, Ok, Err, eqb, ltb}
use Rattle.laws.specs.Pick.{pick}
use Rattle.lines.specs.Moves.{entry_of, said_by}
use Rattle.lines.specs.Follower.{idle, step_of, is_reached, IDLE, SELECT, SLAVACK, MASTEND, BUSACK, XFRRDY}
use Rattle.lines.specs.declared.moves.Move.{Move}
use Rattle.lines.specs.declared.follower.Follower.{Follower}
use Rattle.lines.specs.declared.follower.Answer.{Answer}
use Rattle.lines.specs.declared.follower.Answer.TheVariants.{Same, Controllers, Drives, Undefined, Lost, Idle}
use Rattle.refusals.specs.Refusal.{named}
use Rattle.refusals.specs.declared.refusal.Refusal.{Refusal}

-- The follower after a trace, and its answers.
unfoldable pub after : Follower → List ℕ → Follower
after f [] = f
after f (new ∷ trace) = after (step_of f new).follower trace

unfoldable pub answers : Follower → List ℕ → List (Result Answer Refusal)
answers f [] = []
answers f (new ∷ trace) = (step_of f new).answer ∷ answers (step_of f new).follower trace

-- "a follower state that no trace from the start can reach" is one of which this does not hold.
pub record Reached (f : Follower) : Type 0 where
  pub trace : List ℕ
  pub leads_here : after idle trace ≡ f

-- `is_reached` is reachability, both ways: every trace stays inside, and every state inside has a trace.
pub record ReachedExactly : Type 0 where
  pub stays_inside : (trace : List ℕ) → is_reached (after idle trace) ≡ true
  pub has_a_trace : (f : Follower) → is_reached f ≡ true → Reached f

-- How the lines came to their setting: the earlier settings without a break, newest first, repeats left out. Or they are lost.
pub data Way : Type 0 where
  came_to : ℕ → List ℕ → Way
  astray : Way

pub record Watched : Type 0 where
  pub answer : Result Answer Refusal
  pub way : Way

abbrev pub saw : Answer → Way → Watched
saw answer way = record { answer = Ok answer; way = way }

abbrev pub came_from : List ℕ → List ℕ → Bool
came_from [] earlier = true
came_from (setting ∷ settings) [] = false
came_from (setting ∷ settings) (last ∷ earlier) = eqb last setting && came_from settings earlier

-- "24→28 needs SLAVACK to have come from MASTEND that came from BUSACK. 16→0 needs SELECT to have come from IDLE."
unfoldable pub has_history : ℕ → List ℕ → ℕ → Bool
has_history old earlier new =
    pick (eqb old SLAVACK && eqb new XFRRDY) (came_from (MASTEND ∷ BUSACK ∷ []) earlier)
    (pick (eqb old SELECT && eqb new IDLE) (came_from (IDLE ∷ []) earlier) true)

-- "Any other move is undefined: .. then IDLE if the new setting is 0, else lost."
unfoldable pub saw_undefined : ℕ → Watched
saw_undefined new = saw Undefined (pick (eqb new 0) (came_to IDLE []) astray)

unfoldable pub saw_move : Move → ℕ → List ℕ → ℕ → Watched
saw_move Move.Same old earlier new = saw Same (came_to old earlier)
saw_move Move.Controllers old earlier new = pick (has_history old earlier new) (saw Controllers (came_to new (old ∷ earlier))) (saw_undefined new)
saw_move Move.Drives old earlier new = saw Drives (came_to new (old ∷ earlier))
saw_move Move.Undefined old earlier new = saw_undefined new

-- The watcher: document 01's rules over the whole way.
abbrev pub saw_setting : Way → ℕ → Watched
saw_setting (came_to old earlier) new = saw_move (said_by (entry_of old new)) old earlier new
saw_setting astray new = pick (eqb new 0) (saw Idle (came_to IDLE [])) (saw Lost astray)

unfoldable pub watch : Way → ℕ → Watched
watch way new = pick (ltb 31 new) (record { answer = Err (named 8); way = way }) (saw_setting way new)

unfoldable pub watched_answers : Way → List ℕ → List (Result Answer Refusal)
watched_answers way [] = []
watched_answers way (new ∷ trace) = (watch way new).answer ∷ watched_answers (watch way new).way trace

-- The follower's mark is as good as the whole way: the same answers to every trace from the start.
pub record HistoryKept : Type 0 where
  pub same_answers : (trace : List ℕ) → answers idle trace ≡ watched_answers (came_to IDLE []) trace
