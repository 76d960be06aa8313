-- `replay_part`, M-103: "a replay that takes at most a given number of events and reports how many events it ran", and the ticks between neighbours.
use Rattle.std.specs.Prelude.{◌≡◌, ℕ, zero, suc, ◌+◌, ◌-◌, ◌*◌, ◌%◌, not, List, [], ◌∷◌, length, take, drop, Result, ◌==◌, nat_lt}
use Rattle.laws.specs.Rows.{Row, first, ◌when◌, unless_refused, refused_or}
use Rattle.laws.specs.Octets.{number_of}
use Rattle.laws.specs.Lists.{written_over, table_from}
use Rattle.refusals.specs.Refusal.{on_paper, refusal_in}
use Rattle.refusals.specs.declared.refusal.Refusal.{Refusal}
use Rattle.parts.specs.declared.event.Event.{Event}
use Rattle.drive.specs.Run.{answers, final}
use Rattle.drive.specs.AnswerWords.{words_of_answers}
use Rattle.drive.specs.Batch.{events_of, record_count}
use Rattle.events.specs.State.{state_after}
use Rattle.events.specs.Event.{machine_in}

-- "at most a given number": of a list those from an index on, counted from 0, and no more than the limit.
abbrev pub part : {A : Type 0} → ℕ → ℕ → List A → List A
part from limit list = take limit (drop from list)

-- The events that are run: a part of those that one uncut replay runs.
abbrev pub part_of : List ℕ → ℕ → ℕ → List Event
part_of records from limit = part from limit (events_of records)

-- "tick (2, high first)", of the record with this index.
unfoldable pub tick_at : List ℕ → ℕ → ℕ
tick_at records i = number_of (take 2 (drop (8 * i) records))

-- "ticks are 16 bits and run round past zero, so the gap is the later tick less the earlier one, going round"
unfoldable pub gap : ℕ → ℕ → ℕ
gap earlier later = (later + (65536 - earlier)) % 65536

-- "the ticks between neighbours": the gap is that of the later one. The first record has no neighbour before it.
unfoldable pub gap_at : List ℕ → ℕ → ℕ
gap_at records zero = 0
gap_at records (suc i) = gap (tick_at records i) (tick_at records (suc i))

-- A gap for each record.
abbrev pub gaps_of : List ℕ → List ℕ
gaps_of records = table_from (gap_at records) 0 (record_count records)

-- The call's own rows: 10 where the state, or the room for what will be run, is too short; then 8 where the records are not whole.
abbrev pub part_rows : List ℕ → List ℕ → ℕ → ℕ → List ℕ → List ℕ → List Row
part_rows state records from limit answers gaps =
    let count = length (part_of records from limit) in
    10 when nat_lt (length state) 21
    ∷ 10 when nat_lt (length answers) (13 * count)
    ∷ 10 when nat_lt (length gaps) count
    ∷ 8 when not (length records % 8 == 0)
    ∷ []

abbrev pub part_refusal : List ℕ → List ℕ → ℕ → ℕ → List ℕ → List ℕ → ℕ
part_refusal state records from limit answers gaps = first (part_rows state records from limit answers gaps)

-- The promise of `replay_part`: "that number equals the count of records consumed by the definition, refused events counted too".
pub record PartOnWords (state₀ records : List ℕ) (from limit : ℕ) (sectors₀ staging₀ answers₀ gaps₀ : List ℕ) (r : Result ℕ Refusal) (state₁ sectors₁ staging₁ answers₁ gaps₁ : List ℕ) : Type 0 where
  pub answer : on_paper r ≡ refused_or (part_rows state₀ records from limit answers₀ gaps₀) (length (part_of records from limit))
  pub state : state₁ ≡ unless_refused (refusal_in r) state₀ (state_after state₀ (final (machine_in state₀ sectors₀ staging₀) (part_of records from limit)).drive)
  pub sectors : sectors₁ ≡ unless_refused (refusal_in r) sectors₀ (final (machine_in state₀ sectors₀ staging₀) (part_of records from limit)).sectors
  pub staging : staging₁ ≡ unless_refused (refusal_in r) staging₀ (final (machine_in state₀ sectors₀ staging₀) (part_of records from limit)).staging
  pub answers : answers₁ ≡ unless_refused (refusal_in r) answers₀ (written_over answers₀ (words_of_answers (answers (machine_in state₀ sectors₀ staging₀) (part_of records from limit))))
  pub gaps : gaps₁ ≡ unless_refused (refusal_in r) gaps₀ (written_over gaps₀ (part from limit (gaps_of records)))
