-- Demand 3 of the calls that the shops link: `pg_power_up`, and then `pg_event`, `pg_run` and `pg_replay` in any mix.
use Rattle.std.specs.Prelude.{ℕ, ◌≡◌, List, [], ◌∷◌, ◌++◌, take, drop, get_or}
use Rattle.parts.specs.declared.setup.Setup.{Setup}
use Rattle.parts.specs.declared.event.Event.{Event}
use Rattle.drive.specs.Power.{at_rest}
use Rattle.drive.specs.Run.{Machine, machine, answers, final}
use Rattle.drive.specs.Accepted.{accepted}
use Rattle.drive.specs.AnswerWords.{answer_in, answers_in}
use Rattle.drive.specs.Batch.{events_of, record_count}
use Rattle.drive.specs.Demand3.{MeetsDemand3}
use Rattle.drive.specs.declared.answer.Answer.{Answer}
use Rattle.events.specs.Power.{PoweredUpOnWords}
use Rattle.events.specs.State.{state_after}
use Rattle.events.specs.Event.{machine_in, EventOnWords}
use Rattle.events.specs.Run.{RunOnWords}
use Rattle.events.specs.Part.{part_of}
use Rattle.pantoglide.specs.Replay.{ReplayOnWords}
use Rattle.pantoglide.specs.Singles.{Words, words}

-- The drive that the state's words stand for, with the lent words.
abbrev pub machine_of : Words → Machine
machine_of w = machine_in w.state w.sectors w.staging

-- The fronts of the slices, of any lengths: what a caller lends who lends too little.
abbrev pub front_of : ℕ → ℕ → ℕ → Words → Words
front_of i j k w = words (take i w.state) (take j w.sectors) (take k w.staging)

-- What a call left of the fronts, and the rest as it was.
abbrev pub put_back : ℕ → ℕ → ℕ → Words → Words → Words
put_back i j k w front = words (front.state ++ drop i w.state) (front.sectors ++ drop j w.sectors) (front.staging ++ drop k w.staging)

-- A call of `pg_event`, one of `pg_run` and one of `pg_replay` on the words: what they return and leave.
abbrev pub EventCall : Words → Event → List ℕ → ℕ → Words → List ℕ → Type 0
EventCall w e answer r w' answer' = EventOnWords w.state e w.sectors w.staging answer r w'.state w'.sectors w'.staging answer'

abbrev pub RunCall : Words → List ℕ → List ℕ → ℕ → Words → List ℕ → Type 0
RunCall w records out r w' out' = RunOnWords w.state records w.sectors w.staging out r w'.state w'.sectors w'.staging out'

abbrev pub ReplayCall : Words → List ℕ → ℕ → ℕ → List ℕ → List ℕ → List ℕ → ℕ → Words → List ℕ → List ℕ → List ℕ → Type 0
ReplayCall w records from limit out gaps ran r w' out' gaps' ran' =
    ReplayOnWords w.state records from limit w.sectors w.staging out gaps ran r w'.state w'.sectors w'.staging out' gaps' ran'

-- Calls one after another, each on the words that the one before left: "with nobody else touching the lent words". The events, and the answers as
-- their callers read them off the return values and the answer words.
pub data Calls : Words → List Event → List Answer → Words → Type 0 where
  none : {w : Words} → Calls w [] [] w
  event : {w w' end : Words} {e : Event} {answer answer' : List ℕ} {r : ℕ} {events : List Event} {told : List Answer} → EventCall w e answer r w' answer'
      → (r ≡ 10 → ⊥) → Calls w' events told end → Calls w (e ∷ events) (answer_in r (take 13 answer') ∷ told) end
  run : {w w' end : Words} {records out out' : List ℕ} {events : List Event} {told : List Answer} → RunCall w records out 0 w' out'
      → Calls w' events told end → Calls w (events_of records ++ events) (answers_in (record_count records) out' ++ told) end
  -- The caller reads so many answers as the call says that it ran.
  replay : {w w' end : Words} {records : List ℕ} {from limit : ℕ} {out gaps ran out' gaps' ran' : List ℕ} {events : List Event} {told : List Answer}
      → ReplayCall w records from limit out gaps ran 0 w' out' gaps' ran'
      → Calls w' events told end → Calls w (part_of records from limit ++ events) (answers_in (get_or ran' 0 0) out' ++ told) end
  -- A call that is turned away with 10 for a slice too short, or a run or a replay with 8 for torn records, is no event.
  event_turned_away : {w front' end : Words} {e : Event} {answer answer' : List ℕ} {events : List Event} {told : List Answer} (i j k : ℕ)
      → EventCall (front_of i j k w) e answer 10 front' answer' → Calls (put_back i j k w front') events told end → Calls w events told end
  run_turned_away : {w front' end : Words} {records out out' : List ℕ} {r : ℕ} {events : List Event} {told : List Answer} (i j k : ℕ)
      → RunCall (front_of i j k w) records out r front' out' → (r ≡ 0 → ⊥) → Calls (put_back i j k w front') events told end → Calls w events told end
  replay_turned_away : {w front' end : Words} {records : List ℕ} {from limit : ℕ} {out gaps ran out' gaps' ran' : List ℕ} {r : ℕ} {events : List Event} {told : List Answer} (i j k : ℕ)
      → ReplayCall (front_of i j k w) records from limit out gaps ran r front' out' gaps' ran' → (r ≡ 0 → ⊥)
      → Calls (put_back i j k w front') events told end → Calls w events told end

-- A power-up that returned 0.
abbrev pub PowerUp : Setup → Words → List ℕ → Type 0
PowerUp s w before = PoweredUpOnWords s w.sectors w.staging before 0 w.state

-- The calls answer as the definitions say, and the words at the end stand for the drive at the end, those that no event changes as they were.
pub record Ran (w : Words) (events : List Event) (told : List Answer) (end : Words) : Type 0 where
  pub answered : told ≡ answers (machine_of w) events
  pub ended : machine_of end ≡ final (machine_of w) events
  pub state : end.state ≡ state_after w.state (final (machine_of w) events).drive

-- So many events were sent one by one.
pub record Sent (w : Words) (events : List Event) : Type 0 where
  pub told : List Answer
  pub end : Words
  pub calls : Calls w events told end

pub record Demand3OfTheBoard : Type 0 where
  -- The words that power-up leaves stand for the drive at rest.
  pub powered : {s : Setup} {w : Words} {before : List ℕ} → PowerUp s w before → machine_of w ≡ machine (at_rest s) w.sectors w.staging
  pub ran : {s : Setup} {w end : Words} {before : List ℕ} {events : List Event} {told : List Answer} → PowerUp s w before → Calls w events told end
      → Ran w events told end
  -- "Power up a sound drive; let two ports send any sequence of events, with nobody else touching the lent words."
  pub met : {s : Setup} {w end : Words} {before : List ℕ} {events : List Event} {told : List Answer} → PowerUp s w before → Calls w events told end
      → MeetsDemand3 (machine_of w) events told (machine_of end)
  -- "Run alone from the same power-up, they give the same answers and the same final drive, sectors and staging": every word is the same.
  pub alone : {s : Setup} {w end end' : Words} {before : List ℕ} {events : List Event} {told told' : List Answer} → PowerUp s w before
      → Calls w events told end → Calls w (accepted events told) told' end' → (told' ≡ accepted told told) × (end' ≡ end)
  -- Every list of events can be sent so.
  pub sent : {s : Setup} {w : Words} {before : List ℕ} → PowerUp s w before → (events : List Event) → Sent w events
