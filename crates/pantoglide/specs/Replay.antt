-- `pg_replay`: what `replay_part` does, and how many events it ran in a word of the caller's.
use Rattle.std.specs.Prelude.{ℕ, ◌≡◌, List, [], ◌∷◌, Ok, ltb, length, get_or}
use Rattle.laws.specs.Rows.{Row, first, ◌when◌, unless_refused}
use Rattle.laws.specs.Lists.{written_over}
use Rattle.drive.specs.Run.{answers, final}
use Rattle.drive.specs.AnswerWords.{words_of_answers}
use Rattle.events.specs.State.{state_after}
use Rattle.events.specs.Event.{machine_in}
use Rattle.events.specs.Part.{part, part_of, gaps_of, part_rows, PartOnWords}

-- 10: "a lent slice too short", that for the number among them.
abbrev pub replay_rows : List ℕ → List ℕ → ℕ → ℕ → List ℕ → List ℕ → List ℕ → List Row
replay_rows state records from limit answers gaps ran = 10 when ltb (length ran) 1 ∷ part_rows state records from limit answers gaps

abbrev pub replay_refusal : List ℕ → List ℕ → ℕ → ℕ → List ℕ → List ℕ → List ℕ → ℕ
replay_refusal state records from limit answers gaps ran = first (replay_rows state records from limit answers gaps ran)

-- The promise of `pg_replay`.
pub record ReplayOnWords (state₀ records : List ℕ) (from limit : ℕ) (sectors₀ staging₀ answers₀ gaps₀ ran₀ : List ℕ) (r : ℕ) (state₁ sectors₁ staging₁ answers₁ gaps₁ ran₁ : List ℕ) : Type 0 where
  pub refusal : r ≡ replay_refusal state₀ records from limit answers₀ gaps₀ ran₀
  pub state : state₁ ≡ unless_refused r state₀ (state_after state₀ (final (machine_in state₀ sectors₀ staging₀) (part_of records from limit)).drive)
  pub sectors : sectors₁ ≡ unless_refused r sectors₀ (final (machine_in state₀ sectors₀ staging₀) (part_of records from limit)).sectors
  pub staging : staging₁ ≡ unless_refused r staging₀ (final (machine_in state₀ sectors₀ staging₀) (part_of records from limit)).staging
  pub answers : answers₁ ≡ unless_refused r answers₀ (written_over answers₀ (words_of_answers (answers (machine_in state₀ sectors₀ staging₀) (part_of records from limit))))
  pub gaps : gaps₁ ≡ unless_refused r gaps₀ (written_over gaps₀ (part from limit (gaps_of records)))
  pub ran : ran₁ ≡ unless_refused r ran₀ (written_over ran₀ (length (part_of records from limit) ∷ []))

-- A call that returned 0 did what `replay_part` does with the number in the caller's word, so that its laws, `StopsOnRequest`, are laws of `pg_replay`.
pub record ReplayIsPart : Type 0 where
  pub same : {state records : List ℕ} {from limit : ℕ} {sectors staging answers gaps ran state' sectors' staging' answers' gaps' ran' : List ℕ}
      → ReplayOnWords state records from limit sectors staging answers gaps ran 0 state' sectors' staging' answers' gaps' ran'
      → PartOnWords state records from limit sectors staging answers gaps (Ok (get_or ran' 0 0)) state' sectors' staging' answers' gaps'
