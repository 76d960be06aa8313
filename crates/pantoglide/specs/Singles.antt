-- What `pg_run` does, so many calls of `pg_event` do, each on what the last one left.
use Rattle.std.specs.Prelude.{ℕ, ◌≤◌, ◌≡◌, List, [], ◌∷◌, ◌++◌, length, take}
use Rattle.laws.specs.Rows.{unless_refused}
use Rattle.refusals.specs.Refusal.{named}
use Rattle.parts.specs.declared.event.Event.{Event}
use Rattle.drive.specs.AnswerWords.{answer_words}
use Rattle.drive.specs.Batch.{events_of}
use Rattle.drive.specs.declared.answer.Answer.TheVariants.{Refused}
use Rattle.events.specs.Event.{EventOnWords}
use Rattle.events.specs.Run.{RunOnWords}

-- The state, sector and staging words.
pub record Words : Type 0 where
  pub state : List ℕ
  pub sectors : List ℕ
  pub staging : List ℕ

abbrev pub words : List ℕ → List ℕ → List ℕ → Words
words state sectors staging = record { state = state; sectors = sectors; staging = staging }

-- The 13 words that a single event told; of a refused one those that a run would tell.
abbrev pub told_by : ℕ → List ℕ → List ℕ
told_by r answer = unless_refused r (answer_words (Refused (named r))) (take 13 answer)

pub data Singles : Words → List Event → List ℕ → Words → Type 0 where
  none : {w : Words} → Singles w [] [] w
  one : {state sectors staging answer : List ℕ} {e : Event} {r : ℕ} {state' sectors' staging' answer' : List ℕ} {events : List Event} {told : List ℕ} {w : Words}
      → 13 ≤ length answer → EventOnWords state e sectors staging answer r state' sectors' staging' answer'
      → Singles (words state' sectors' staging') events told w → Singles (words state sectors staging) (e ∷ events) (told_by r answer' ++ told) w

-- A run that is not refused leaves the words that those calls leave, and tells what they tell.
pub record RunIsSingles : Type 0 where
  pub same : {state records sectors staging out : List ℕ} {state' sectors' staging' out' : List ℕ} {told : List ℕ} {w : Words}
      → RunOnWords state records sectors staging out 0 state' sectors' staging' out' → Singles (words state sectors staging) (events_of records) told w
      → (words state' sectors' staging' ≡ w) × (take (length told) out' ≡ told)
