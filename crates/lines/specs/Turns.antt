-- M-104: "a second follower without it, where the controller's turn hands over to the drive's turn and back, each taking the moves that are its own and
-- passing on what remains of the trace." It goes by the two lines of moves.
use Rattle.std.specs.Prelude.{ℕ, ◌<◌, ◌≤◌, Bool, false, not, ◌&&◌, List, [], ◌∷◌, eqb, ltb, length}
use Rattle.laws.specs.Pick.{pick}
use Rattle.lines.specs.Moves.{is_listed, controllers_moves, drives_moves}
use Rattle.lines.specs.Follower.{told, refused, lacks_history, remembers, undefined_at, while_lost, is_reached}
use Rattle.lines.specs.Reading.{Read}
use Rattle.lines.specs.declared.line.Side.{Side}
use Rattle.lines.specs.declared.follower.Follower.{Follower}
use Rattle.lines.specs.declared.follower.Followed.{Followed}
use Rattle.lines.specs.declared.follower.Answer.{Answer}
use Rattle.lines.specs.declared.follower.Answer.TheVariants.{Same, Controllers, Drives}
use Rattle.refusals.specs.Refusal.{named}

infix 10 ◌then◌
-- A move of the controller's: listed, "with its history", and none while the follower is lost.
abbrev pub is_controllers : Follower → ℕ → Bool
is_controllers f new = not f.lost && (is_listed controllers_moves f.setting new && not (lacks_history f new))

-- A move of the drive's: it needs no history. A follower that is lost is at 0, if a trace reaches it, and there the drive has no move.
abbrev pub is_drives : Follower → ℕ → Bool
is_drives f new = is_listed drives_moves f.setting new

-- "A setting over 31 is refused (8)", "While lost it answers "lost" to every setting from 1 to 31", "a repeated setting answers "same" and changes
-- nothing", "Any other move is undefined".
unfoldable pub nobodys_move : Follower → ℕ → Followed
nobodys_move f new =
    pick (ltb 31 new) (refused (named 8) f)
    (pick f.lost (while_lost new)
    (pick (eqb f.setting new) (told Same f) (undefined_at new)))

-- A setting in the turn of a side, where `own` tells whether it is a move of its own: "a follower state that no trace from the start can reach is refused
-- (11), tested first."
unfoldable pub takes : Answer → Bool → Follower → ℕ → Followed
takes side own f new = pick (not (is_reached f)) (refused (named 11) f) (pick own (told side (remembers f new)) (nobodys_move f new))

abbrev pub controller_takes : Follower → ℕ → Followed
controller_takes f new = takes Controllers (is_controllers f new) f new

abbrev pub drive_takes : Follower → ℕ → Followed
drive_takes f new = takes Drives (is_drives f new) f new

-- `controller_takes` and `drive_takes` by the side whose turn it is.
abbrev pub whose : Side → Answer
whose Side.Controller = Controllers
whose Side.Drive = Drives

abbrev pub is_move : Side → Follower → ℕ → Bool
is_move Side.Controller = is_controllers
is_move Side.Drive = is_drives

abbrev pub side_takes : Side → Follower → ℕ → Followed
side_takes side f new = takes (whose side) (is_move side f new) f new

-- Does a move of this side come? Where the lines are does not tell: at 16 either side has one.
abbrev pub comes : (Follower → ℕ → Bool) → Follower → List ℕ → Bool
comes is_own f [] = false
comes is_own f (new ∷ rest) = is_own f new

-- What is said of a setting, and what is read of the rest by the follower behind it.
abbrev pub ◌then◌ : Followed → (Follower → Read) → Read
said then rest = record { answers = said.answer ∷ (rest said.follower).answers; last = (rest said.follower).last }

abbrev pub nothing_left : Follower → Read
nothing_left f = record { answers = []; last = f }

-- A side takes what comes, a setting at least, until a move of the other side comes.
unfoldable mutual
  pub controllers_turn : Follower → List ℕ → Read
  controllers_turn f [] = nothing_left f
  controllers_turn f (new ∷ rest) = controller_takes f new then λ f'. pick (comes is_drives f' rest) (drives_turn f' rest) (controllers_turn f' rest)

  pub drives_turn : Follower → List ℕ → Read
  drives_turn f [] = nothing_left f
  drives_turn f (new ∷ rest) = drive_takes f new then λ f'. pick (comes is_controllers f' rest) (controllers_turn f' rest) (drives_turn f' rest)

-- What a call of a turn takes: a setting at least, at most so many, and room for their answers.
abbrev pub IsStretch : List ℕ → List ℕ → Type 0
IsStretch rest room = (0 < length rest) × (length rest ≤ 16) × (length rest ≤ length room)

-- The controller has the first turn, unless a move of the drive comes.
unfoldable pub read_plainly : Follower → List ℕ → Read
read_plainly f trace = pick (comes is_drives f trace) (drives_turn f trace) (controllers_turn f trace)
