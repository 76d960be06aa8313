-- M-104: "For every trace of settings, lost stretches and settings over 31 included, it gives the same list of answers and the same last state as the first."
use Rattle.std.specs.Prelude.{ℕ, ◌≡◌, true, false, List, Result, ◌↔◌}
use Rattle.lines.specs.Follower.{step_of}
use Rattle.lines.specs.Traces.{after, answers}
use Rattle.lines.specs.Reading.{step_by_step, TraceRead}
use Rattle.lines.specs.Turns.{is_controllers, is_drives, controller_takes, drive_takes, comes, controllers_turn, drives_turn, read_plainly}
use Rattle.lines.specs.declared.follower.Follower.{Follower}
use Rattle.refusals.specs.declared.refusal.Refusal.{Refusal}

-- The turns' own definition is the step, setting by setting and over a whole trace: of either side, unless a move of the other side comes.
pub record PlainDefinitionIsTheStep : Type 0 where
  pub controller_takes : (f : Follower) (new : ℕ) → is_drives f new ≡ false → controller_takes f new ≡ step_of f new
  pub drive_takes : (f : Follower) (new : ℕ) → is_controllers f new ≡ false → drive_takes f new ≡ step_of f new
  pub controllers_turn : (f : Follower) (trace : List ℕ) → comes is_drives f trace ≡ false → controllers_turn f trace ≡ step_by_step f trace
  pub drives_turn : (f : Follower) (trace : List ℕ) → comes is_controllers f trace ≡ false → drives_turn f trace ≡ step_by_step f trace
  -- No move is both sides', so one of the two turns has it.
  pub one_sided : (f : Follower) (trace : List ℕ) → comes is_drives f trace ≡ true → comes is_controllers f trace ≡ false

-- Of every follower and every trace; and what the one call may answer, the other may, and the other way round.
pub record PlainIsTheTable : Type 0 where
  pub same_answers : (f : Follower) (trace : List ℕ) → (read_plainly f trace).answers ≡ answers f trace
  pub same_last : (f : Follower) (trace : List ℕ) → (read_plainly f trace).last ≡ after f trace
  pub same_call : (f : Follower) (trace : List ℕ) {answers₀ : List ℕ} {r : Result Follower Refusal} {answers₁ : List ℕ}
      → TraceRead (read_plainly f trace) trace answers₀ r answers₁ ↔ TraceRead (step_by_step f trace) trace answers₀ r answers₁
