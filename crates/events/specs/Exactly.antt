-- "Each number is given when its row holds and no row tested earlier does": of the calls on the words of a state.
use Rattle.std.specs.Prelude.{◌≡◌, ℕ, suc, ◌↔◌, List, Result}
use Rattle.laws.specs.Rows.{Given}
use Rattle.refusals.specs.Refusal.{refusal_in}
use Rattle.refusals.specs.declared.refusal.Refusal.{Refusal}
use Rattle.parts.specs.declared.setup.Setup.{Setup}
use Rattle.parts.specs.declared.event.Event.{Event}
use Rattle.events.specs.Power.{power_up_rows, PoweredUpOnWords}
use Rattle.events.specs.Event.{event_rows, EventOnWords}
use Rattle.events.specs.Run.{run_rows, RunOnWords}
use Rattle.events.specs.Part.{part_rows, PartOnWords}

-- Whatever meets the promise refuses with number n if and only if row n holds and no row tested earlier does.
pub record Exactly : Type 0 where
  pub power_up_words_exactly : {s : Setup} {sectors staging state : List ℕ} {r : ℕ} {state' : List ℕ} → PoweredUpOnWords s sectors staging state r state'
      → (n : ℕ) → r ≡ suc n ↔ Given (suc n) (power_up_rows s sectors staging state)
  pub answer_event_exactly : {state : List ℕ} {e : Event} {sectors staging answer : List ℕ} {r : ℕ} {state' sectors' staging' answer' : List ℕ}
      → EventOnWords state e sectors staging answer r state' sectors' staging' answer'
      → (n : ℕ) → r ≡ suc n ↔ Given (suc n) (event_rows state e sectors staging answer)
  -- The rows of the call itself: those of each event are told in the words of its answer.
  pub run_records_exactly : {state records sectors staging out : List ℕ} {r : ℕ} {state' sectors' staging' out' : List ℕ}
      → RunOnWords state records sectors staging out r state' sectors' staging' out'
      → (n : ℕ) → r ≡ suc n ↔ Given (suc n) (run_rows state records out)
  pub replay_part_exactly : {state records : List ℕ} {from limit : ℕ} {sectors staging answers gaps : List ℕ} {r : Result ℕ Refusal} {state' sectors' staging' answers' gaps' : List ℕ}
      → PartOnWords state records from limit sectors staging answers gaps r state' sectors' staging' answers' gaps'
      → (n : ℕ) → refusal_in r ≡ suc n ↔ Given (suc n) (part_rows state records from limit answers gaps)
