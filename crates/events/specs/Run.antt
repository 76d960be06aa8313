-- `run_records`: "The records of a capture .. one after another, without notes or trailer." 13 answer words each.
use Rattle.std.specs.Prelude.{◌≡◌, ℕ, List, ◌∷◌, length, nat_lt}
use Rattle.laws.specs.Rows.{Row, first, ◌when◌, unless_refused}
use Rattle.laws.specs.Lists.{written_over}
use Rattle.drive.specs.Run.{answers, final}
use Rattle.drive.specs.AnswerWords.{words_of_answers}
use Rattle.drive.specs.Batch.{events_of, batch_rows}
use Rattle.events.specs.State.{state_after}
use Rattle.events.specs.Event.{machine_in}

-- The call's own rows: 10 where the state or the answers are too short, then 8 where the records are not whole.
abbrev pub run_rows : List ℕ → List ℕ → List ℕ → List Row
run_rows state records out = 10 when nat_lt (length state) 23 ∷ batch_rows records out

abbrev pub run_refusal : List ℕ → List ℕ → List ℕ → ℕ
run_refusal state records out = first (run_rows state records out)

-- The promise of `run_records`.
pub record RunOnWords (state₀ records sectors₀ staging₀ out₀ : List ℕ) (r : ℕ) (state₁ sectors₁ staging₁ out₁ : List ℕ) : Type 0 where
  pub refusal : r ≡ run_refusal state₀ records out₀
  pub state : state₁ ≡ unless_refused r state₀ (state_after state₀ (final (machine_in state₀ sectors₀ staging₀) (events_of records)).drive)
  pub sectors : sectors₁ ≡ unless_refused r sectors₀ (final (machine_in state₀ sectors₀ staging₀) (events_of records)).sectors
  pub staging : staging₁ ≡ unless_refused r staging₀ (final (machine_in state₀ sectors₀ staging₀) (events_of records)).staging
  pub out : out₁ ≡ unless_refused r out₀ (written_over out₀ (words_of_answers (answers (machine_in state₀ sectors₀ staging₀) (events_of records))))
