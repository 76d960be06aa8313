-- "Two moves also need history": the follower, step by step.
use Rattle.std.specs.Prelude.{ℕ, ◌≡◌, Bool, true, false, not, ◌&&◌, ◌||◌, List, [], ◌∷◌, Ok, Err, eqb, ltb}
use Rattle.laws.specs.Pick.{pick}
use Rattle.laws.specs.Rows.{Row, first, ◌when◌, unless_refused, refused_or}
use Rattle.laws.specs.Lists.{one_of}
use Rattle.lines.specs.Moves.{entry_of, said_by}
use Rattle.lines.specs.declared.moves.Move.{Move}
use Rattle.lines.specs.declared.follower.Follower.{Follower}
use Rattle.lines.specs.declared.follower.Followed.{Followed}
use Rattle.lines.specs.declared.follower.Answer.{Answer}
use Rattle.lines.specs.declared.follower.Answer.TheVariants.{Same, Controllers, Drives, Undefined, Lost, Idle}
use Rattle.refusals.specs.Refusal.{named, on_paper}
use Rattle.refusals.specs.declared.refusal.Refusal.{Refusal}

infix 20 ◌with-history◌
-- "IDLE 0, MAINT 1, REQUEST 4, DESEL 8, SELECT 16, SLAVEND 20, SLAVACK 24, BUSCTL 25, MASTEND 26, BUSACK 27, XFRRDY 28, XFRST 30."
abbrev pub IDLE : ℕ
IDLE = 0

abbrev pub SELECT : ℕ
SELECT = 16

abbrev pub SLAVACK : ℕ
SLAVACK = 24

abbrev pub MASTEND : ℕ
MASTEND = 26

abbrev pub BUSACK : ℕ
BUSACK = 27

abbrev pub XFRRDY : ℕ
XFRRDY = 28

abbrev pub ◌with-history◌ : ℕ → Bool → Follower
setting with-history h = record { setting = setting; history = h; lost = false }

-- "The follower starts IDLE."
abbrev pub idle : Follower
idle = IDLE with-history false

-- "else lost": with nothing beside it.
abbrev pub lost : Follower
lost = record { setting = 0; history = false; lost = true }

abbrev pub told : Answer → Follower → Followed
told answer follower = record { answer = Ok answer; follower = follower }

-- A refusal changes nothing.
abbrev pub refused : Refusal → Follower → Followed
refused refusal follower = record { answer = Err refusal; follower = follower }

-- "24→28 needs SLAVACK to have come from MASTEND that came from BUSACK. 16→0 needs SELECT to have come from IDLE."
unfoldable pub lacks_history : Follower → ℕ → Bool
lacks_history f new = not f.history && (eqb f.setting SLAVACK && eqb new XFRRDY || eqb f.setting SELECT && eqb new IDLE)

-- The follower after a move, with the history for those two: SELECT from IDLE, MASTEND from BUSACK, SLAVACK from such a MASTEND.
unfoldable pub remembers : Follower → ℕ → Follower
remembers f new =
    new with-history
    (eqb f.setting IDLE && eqb new SELECT || eqb f.setting BUSACK && eqb new MASTEND || eqb f.setting MASTEND && eqb new SLAVACK && f.history)

-- "Any other move is undefined: the follower says so, and is then IDLE if the new setting is 0, else lost."
unfoldable pub undefined_at : ℕ → Followed
undefined_at new = told Undefined (pick (eqb new 0) idle lost)

-- "While lost it answers "lost" to every setting from 1 to 31, and 0 makes it IDLE with the answer "idle"."
unfoldable pub while_lost : ℕ → Followed
while_lost new = pick (eqb new 0) (told Idle idle) (told Lost lost)

-- "a listed move with its history answers with its side, and a repeated setting answers "same" and changes nothing, history included."
unfoldable pub moved_by : Move → Follower → ℕ → Followed
moved_by Move.Same f new = told Same f
moved_by Move.Controllers f new = pick (lacks_history f new) (undefined_at new) (told Controllers (remembers f new))
moved_by Move.Drives f new = told Drives (remembers f new)
moved_by Move.Undefined f new = undefined_at new

abbrev pub moved : Follower → ℕ → Followed
moved f new = moved_by (said_by (entry_of f.setting new)) f new

-- "a follower state that no trace from the start can reach": these settings are reached, three of them also with history. `Traces` has it both ways.
abbrev pub seen_settings : List ℕ
seen_settings = 0 ∷ 1 ∷ 4 ∷ 8 ∷ 16 ∷ 20 ∷ 24 ∷ 25 ∷ 26 ∷ 27 ∷ 28 ∷ 29 ∷ 30 ∷ 31 ∷ []

abbrev pub settings_with_history : List ℕ
settings_with_history = SELECT ∷ SLAVACK ∷ MASTEND ∷ []

unfoldable pub is_reached : Follower → Bool
is_reached f =
    pick f.lost (eqb f.setting 0 && not f.history)
    (pick f.history (one_of settings_with_history f.setting) (one_of seen_settings f.setting))

-- "A setting over 31 is refused (8); a follower state that no trace from the start can reach is refused (11), tested first."
abbrev pub step_rows : Follower → ℕ → List Row
step_rows f new = 11 when not (is_reached f) ∷ 8 when ltb 31 new ∷ []

unfoldable pub step_of : Follower → ℕ → Followed
step_of f new = unless_refused (first (step_rows f new)) (refused (named (first (step_rows f new))) f) (pick f.lost (while_lost new) (moved f new))

-- Of a move: whose the table has it, and "undefined" for a controller's that lacks its history.
abbrev pub said_of : Move → Bool → Answer
said_of Move.Same lacks = Same
said_of Move.Controllers lacks = pick lacks Undefined Controllers
said_of Move.Drives lacks = Drives
said_of Move.Undefined lacks = Undefined

-- What is said: while lost as above, else of the move.
unfoldable pub said : Follower → ℕ → Answer
said f new = pick f.lost (pick (eqb new 0) Idle Lost) (said_of (said_by (entry_of f.setting new)) (lacks_history f new))

-- The promise of `Follower::start`.
pub record Started (r : Follower) : Type 0 where
  pub follower : r ≡ idle

-- The promise of `Follower::is_reached`.
pub record ReachedSaid (f : Follower) (r : Bool) : Type 0 where
  pub answer : r ≡ is_reached f

-- The promise of `Follower::step`, and of `step_plainly`.
pub record Stepped (f : Follower) (new : ℕ) (r : Followed) : Type 0 where
  pub answer : r.answer ≡ (step_of f new).answer
  pub on_paper : on_paper r.answer ≡ refused_or (step_rows f new) (said f new)
  pub follower : r.follower ≡ (step_of f new).follower
