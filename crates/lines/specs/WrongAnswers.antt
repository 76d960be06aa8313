-- Wrong answers, two or more for each call: what a careless programmer would get, and no promise allows.
use Rattle.std.specs.Prelude.{ℕ, true, false, List, [], ◌∷◌, Ok, Err}
use Rattle.lines.specs.Line.{WeightSaid, OwnerSaid}
use Rattle.lines.specs.Moves.{MoveSaid}
use Rattle.lines.specs.Follower.{IDLE, SELECT, SLAVACK, MASTEND, BUSACK, XFRRDY, ◌with-history◌, idle, lost, told, Started, Stepped, ReachedSaid}
use Rattle.lines.specs.Reading.{Read, step_by_step, OctetSaid, TraceRead}
use Rattle.lines.specs.Turns.{read_plainly}
use Rattle.lines.specs.declared.line.Line.TheVariants.{SelectOut, MasterOut, SyncIn, SyncOut}
use Rattle.lines.specs.declared.line.Side.{Side}
use Rattle.lines.specs.declared.moves.Move.{Move}
use Rattle.lines.specs.declared.follower.Follower.{Follower}
use Rattle.lines.specs.declared.follower.Answer.{Answer}
use Rattle.refusals.specs.Refusal.{named}

-- Of a reader of traces, by whatever it reads.
pub record WrongReadings (read : Follower → List ℕ → Read) : Type 0 where
  -- 16→24 is the drive's.
  pub drives_move_as_the_controllers :
      let trace : List ℕ = SLAVACK ∷ [] in TraceRead (read (SELECT with-history true) trace) trace (0 ∷ []) (Ok (SLAVACK with-history false)) (17 ∷ []) → ⊥
  -- 26→24 is the drive's and keeps the history that the controller's 24→28 needs.
  pub history_forgotten_at_a_hand_over :
      let trace : List ℕ = MASTEND ∷ SLAVACK ∷ XFRRDY ∷ [] in
      TraceRead (read (BUSACK with-history false) trace) trace (0 ∷ 0 ∷ 0 ∷ []) (Ok lost) (17 ∷ 18 ∷ 19 ∷ []) → ⊥
  -- Lost, it is lost until 0.
  pub lost_stretch_ended_by_1 : let trace : List ℕ = SELECT ∷ 1 ∷ [] in TraceRead (read lost trace) trace (0 ∷ 0 ∷ []) (Ok idle) (20 ∷ 21 ∷ []) → ⊥
  -- Behind a setting over 31 the trace goes on.
  pub trace_ended_by_32 : let trace : List ℕ = 32 ∷ SELECT ∷ [] in TraceRead (read idle trace) trace (0 ∷ 0 ∷ []) (Ok idle) (8 ∷ 0 ∷ []) → ⊥
  -- An octet behind the answers stays.
  pub octet_behind_cleared : let trace : List ℕ = IDLE ∷ [] in TraceRead (read idle trace) trace (0 ∷ 7 ∷ []) (Ok idle) (16 ∷ 0 ∷ []) → ⊥

pub record WrongAnswers : Type 0 where
  -- ---- weight
  -- SYNC OUT is 1, SYNC IN is 2.
  pub sync_out_2 : WeightSaid SyncOut 2 → ⊥
  -- SELECT OUT is 16.
  pub select_out_8 : WeightSaid SelectOut 8 → ⊥
  -- ---- owner
  -- MASTER OUT is the controller's.
  pub master_out_the_drives : OwnerSaid MasterOut Side.Drive → ⊥
  -- SYNC IN is the drive's.
  pub sync_in_the_controllers : OwnerSaid SyncIn Side.Controller → ⊥
  -- ---- move_of
  -- 24→28 is the controller's.
  pub transfer_the_drives : MoveSaid SLAVACK XFRRDY (Ok Move.Drives) → ⊥
  -- A setting over 31 is refused, not undefined.
  pub setting_32_answered : MoveSaid IDLE 32 (Ok Move.Undefined) → ⊥
  -- ---- Follower::start
  -- The follower does not start lost.
  pub starts_lost : Started lost → ⊥
  -- It starts IDLE.
  pub starts_at_select : Started (SELECT with-history false) → ⊥
  -- ---- Follower::step, step_plainly
  -- 16→0 where SELECT has not come from IDLE is undefined.
  pub select_left_without_history : Stepped (SELECT with-history false) IDLE (told Answer.Controllers idle) → ⊥
  -- No trace reaches DESEL with a history: 11.
  pub deselect_with_history : Stepped (8 with-history true) IDLE (told Answer.Drives idle) → ⊥
  -- A lost follower says lost to setting 1, not undefined.
  pub undefined_while_lost : Stepped lost 1 (told Answer.Undefined lost) → ⊥
  -- ---- Follower::is_reached
  -- No trace reaches DESEL with a history.
  pub deselect_with_history_reached : ReachedSaid (8 with-history true) true → ⊥
  -- A trace of one setting leads to lost.
  pub lost_unreached : ReachedSaid lost false → ⊥
  -- ---- Followed::octet
  -- 17 is the controller's, 18 the drive's.
  pub controllers_18 : OctetSaid (Ok Answer.Controllers) 18 → ⊥
  -- A refusal keeps its number.
  pub refusal_0 : OctetSaid (Err (named 8)) 0 → ⊥
  -- ---- follow, read_plainly
  pub by_the_table : WrongReadings step_by_step
  pub plainly : WrongReadings read_plainly
