-- What the private functions under `event` and `run` do: an event on the words of a state, and so many of them.
use Rattle.std.specs.Prelude.{◌≡◌, ℕ, zero, suc, ◌*◌, ◌<◌, ◌≤◌, Bool, true, false, List, [], ◌++◌, length, ◌≢◌, slice_index}
use Rattle.laws.specs.Pick.{pick}
use Rattle.laws.specs.Rows.{unless_refused}
use Rattle.laws.specs.Lists.{written_over}
use Rattle.status.specs.DriveStatus.{is_drive_status}
use Rattle.refusals.specs.declared.refusal.Refusal.{Refusal}
use Rattle.parts.specs.declared.event.Event.{Event}
use Rattle.drive.specs.Answer.{refusal_in}
use Rattle.drive.specs.Refusal.{row11}
use Rattle.drive.specs.Accepted.{is_refused}
use Rattle.drive.specs.Run.{answer_to, after, answers, final}
use Rattle.drive.specs.AnswerWords.{answer_words, words_of_answers}
use Rattle.drive.specs.Batch.{event_of, events_in}
use Rattle.drive.specs.declared.answer.Answer.{Answer}
use Rattle.drive.specs.declared.answer.Answer.TheVariants.{Refused}
use Rattle.events.specs.State.{drive_in, state_after}
use Rattle.events.specs.Event.{machine_in}

-- A refusal's number, unless it is told in the words.
abbrev pub quietly : Bool → Answer → ℕ
quietly telling answer = pick telling 0 (refusal_in answer)

-- A refusal keeps quiet unless it is to tell.
abbrev pub is_quiet : Bool → Answer → Bool
is_quiet telling answer = pick telling false (is_refused answer)

-- The words of an answer at the front of a slice; a refusal that keeps quiet leaves it.
pub record Telling (telling : Bool) (answer : Answer) (out₀ : List ℕ) (r : ℕ) (out₁ : List ℕ) : Type 0 where
  pub number : r ≡ quietly telling answer
  pub out : out₁ ≡ pick (is_quiet telling answer) out₀ (written_over out₀ (answer_words answer))

-- Words that an answer is read from: the status is absent, or the octet of a status.
pub record Told (words : List ℕ) : Type 0 where
  pub long : 13 ≤ length words
  pub status : (slice_index words 1 ≢ 0xFFFF) → is_drive_status (slice_index words 1) ≡ true

-- The words of so many refusals.
unfoldable pub refusals : Refusal → ℕ → List ℕ
refusals refusal zero = []
refusals refusal (suc count) = refusals refusal count ++ answer_words (Refused refusal)

-- An event on any words of a state.
pub record Answered (e : Event) (state₀ sectors₀ staging₀ : List ℕ) (r : Answer) (state₁ sectors₁ staging₁ : List ℕ) : Type 0 where
  pub answer : r ≡ answer_to (machine_in state₀ sectors₀ staging₀) e
  pub state : state₁ ≡ state_after state₀ (after (machine_in state₀ sectors₀ staging₀) e).drive
  pub sectors : sectors₁ ≡ (after (machine_in state₀ sectors₀ staging₀) e).sectors
  pub staging : staging₁ ≡ (after (machine_in state₀ sectors₀ staging₀) e).staging

-- And the words of its answer.
pub record Turn (telling : Bool) (e : Event) (state₀ sectors₀ staging₀ out₀ : List ℕ) (r : ℕ) (state₁ sectors₁ staging₁ out₁ : List ℕ) : Type 0 where
  pub answered : Answered e state₀ sectors₀ staging₀ (answer_to (machine_in state₀ sectors₀ staging₀) e) state₁ sectors₁ staging₁
  pub told : Telling telling (answer_to (machine_in state₀ sectors₀ staging₀) e) out₀ r out₁

-- What a batch is lent: a state, so many records, and 13 words for each answer. A quiet one has one event.
pub record Lent (telling : Bool) (count : ℕ) (state records out : List ℕ) : Type 0 where
  pub long : 21 ≤ length state
  pub some : 0 < count
  pub whole : 8 * count ≤ length records
  pub room : 13 * count ≤ length out
  pub quiet : telling ≡ false → count ≡ 1

-- So many events. A quiet batch has one, and answers its refusal.
pub record Worked (telling : Bool) (count : ℕ) (records state₀ sectors₀ staging₀ out₀ : List ℕ) (r : ℕ) (state₁ sectors₁ staging₁ out₁ : List ℕ) : Type 0 where
  pub number : r ≡ quietly telling (answer_to (machine_in state₀ sectors₀ staging₀) (event_of records))
  pub state : state₁ ≡ state_after state₀ (final (machine_in state₀ sectors₀ staging₀) (events_in count records)).drive
  pub sectors : sectors₁ ≡ (final (machine_in state₀ sectors₀ staging₀) (events_in count records)).sectors
  pub staging : staging₁ ≡ (final (machine_in state₀ sectors₀ staging₀) (events_in count records)).staging
  pub out : out₁ ≡ unless_refused r out₀ (written_over out₀ (words_of_answers (answers (machine_in state₀ sectors₀ staging₀) (events_in count records))))

-- An event without room for its answer: 11, else 10, and nothing changed.
pub record RefusedShort (state₀ sectors₀ : List ℕ) (r : ℕ) (state₁ sectors₁ : List ℕ) : Type 0 where
  pub number : r ≡ pick (row11 (drive_in state₀)) 11 10
  pub state : state₁ ≡ state₀
  pub sectors : sectors₁ ≡ sectors₀
