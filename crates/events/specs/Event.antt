-- `answer_event`: one event on the words of a state. "A refused event changes nothing, the answer's words included."
use Rattle.std.specs.Prelude.{◌≡◌, ℕ, ◌||◌, ltb, List, ◌∷◌, length, nat_lt}
use Rattle.laws.specs.Rows.{Row, first, ◌when◌, unless_refused}
use Rattle.laws.specs.Lists.{written_over}
use Rattle.parts.specs.Kind.{kind_of}
use Rattle.parts.specs.declared.event.Event.{Event}
use Rattle.drive.specs.Refusal.{row11, row10, row1, own_rows}
use Rattle.drive.specs.Run.{Machine, machine, answer_to, after}
use Rattle.drive.specs.AnswerWords.{answer_words}
use Rattle.events.specs.State.{drive_in, state_after}

abbrev pub event_of_octets : ℕ → ℕ → ℕ → ℕ → ℕ → ℕ → Event
event_of_octets port kind a0 a1 a2 a3 = record { port = port; kind = kind; a0 = a0; a1 = a1; a2 = a2; a3 = a3 }

-- The drive that the state's words stand for, with the lent words.
abbrev pub machine_in : List ℕ → List ℕ → List ℕ → Machine
machine_in state sectors staging = machine (drive_in state) sectors staging

-- "Events test 11, 10, 1, 8; then" those of the kind. A state too short is 10 before all, since there is nothing to judge. The answer's slice is one
-- of those that 10 is about.
abbrev pub event_rows : List ℕ → Event → List ℕ → List ℕ → List ℕ → List Row
event_rows state e sectors staging answer =
    let d = drive_in state in
    10 when ltb (length state) 23
    ∷ 11 when row11 d
    ∷ 10 when (row10 d.setup sectors staging || nat_lt (length answer) 13)
    ∷ 1 when row1 e
    ∷ own_rows (kind_of e.kind) d e

abbrev pub event_refusal : List ℕ → Event → List ℕ → List ℕ → List ℕ → ℕ
event_refusal state e sectors staging answer = first (event_rows state e sectors staging answer)

-- The promise of `answer_event`.
pub record EventOnWords (state₀ : List ℕ) (e : Event) (sectors₀ staging₀ answer₀ : List ℕ) (r : ℕ) (state₁ sectors₁ staging₁ answer₁ : List ℕ) : Type 0 where
  pub refusal : r ≡ event_refusal state₀ e sectors₀ staging₀ answer₀
  pub state : state₁ ≡ unless_refused r state₀ (state_after state₀ (after (machine_in state₀ sectors₀ staging₀) e).drive)
  pub sectors : sectors₁ ≡ unless_refused r sectors₀ (after (machine_in state₀ sectors₀ staging₀) e).sectors
  pub staging : staging₁ ≡ unless_refused r staging₀ (after (machine_in state₀ sectors₀ staging₀) e).staging
  pub answer : answer₁ ≡ unless_refused r answer₀ (written_over answer₀ (answer_words (answer_to (machine_in state₀ sectors₀ staging₀) e)))
