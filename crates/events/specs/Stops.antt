-- M-103's sentences on a replay that stops on request, said of every outcome that the promise of `replay_part` allows.
use Rattle.std.specs.Prelude.{◌≡◌, ℕ, ◌+◌, ◌-◌, ◌*◌, ◌%◌, ◌<◌, ◌≤◌, min, List, ◌++◌, length, take, drop, Result, Ok}
use Rattle.laws.specs.Lists.{written_over}
use Rattle.laws.specs.Octets.{AllOctets}
use Rattle.refusals.specs.declared.refusal.Refusal.{Refusal}
use Rattle.drive.specs.Run.{answers}
use Rattle.drive.specs.AnswerWords.{words_of_answers}
use Rattle.drive.specs.Batch.{events_of, record_count}
use Rattle.events.specs.Event.{machine_in}
use Rattle.events.specs.Run.{RunOnWords}
use Rattle.events.specs.Part.{part_of, tick_at, gap, gaps_of, PartOnWords}

-- What a call is handed to change, and what it leaves: state, sectors and staging; answers and gaps.
pub record Lending : Type 0 where
  pub state : List ℕ
  pub sectors : List ℕ
  pub staging : List ℕ
  pub answers : List ℕ
  pub gaps : List ℕ

-- A call on what is lent.
abbrev pub PartCall : Lending → List ℕ → ℕ → ℕ → Result ℕ Refusal → Lending → Type 0
PartCall w records from limit r w' =
    PartOnWords w.state records from limit w.sectors w.staging w.answers w.gaps r w'.state w'.sectors w'.staging w'.answers w'.gaps

-- The same state, sectors and staging. What is lent for answers and gaps may be something else.
pub record SameDrive (v w : Lending) : Type 0 where
  pub state : v.state ≡ w.state
  pub sectors : v.sectors ≡ w.sectors
  pub staging : v.staging ≡ w.staging

-- "that number equals the count of records consumed by the definition, refused events counted too"
pub record Counts (w : Lending) (records : List ℕ) (from limit n : ℕ) : Type 0 where
  pub consumed : n ≡ length (part_of records from limit)
  pub answered : n ≡ length (answers (machine_in w.state w.sectors w.staging) (part_of records from limit))
  pub least : n ≡ min limit (record_count records - from)
  -- "at most a given number of events"
  pub within : n ≤ limit
  -- What is left begins at `from` plus what was run.
  pub rest : drop from (events_of records) ≡ part_of records from limit ++ drop (from + n) (events_of records)

-- "Continuing from where it stopped gives the same answers and drive as one uncut replay", and the same gaps. The words that were told stand in front.
pub record Joined (n₁ : ℕ) (w₁ : Lending) (n₂ : ℕ) (w₂ : Lending) (n : ℕ) (w : Lending) : Type 0 where
  pub count : n ≡ n₁ + n₂
  pub state : w.state ≡ w₂.state
  pub sectors : w.sectors ≡ w₂.sectors
  pub staging : w.staging ≡ w₂.staging
  pub answers : take (13 * n) w.answers ≡ take (13 * n₁) w₁.answers ++ take (13 * n₂) w₂.answers
  pub gaps : take n w.gaps ≡ take n₁ w₁.gaps ++ take n₂ w₂.gaps

-- "ticks are 16 bits and run round past zero"
pub record Difference (earlier later n : ℕ) : Type 0 where
  pub reaches : (earlier + n) % 65536 ≡ later
  pub below : n < 65536

pub record StopsOnRequest : Type 0 where
  pub part_counts : {w w' : Lending} {records : List ℕ} {from limit n : ℕ} → PartCall w records from limit (Ok n) w' → Counts w records from limit n
  pub parts_join : {u u' v v' w w' : Lending} {records : List ℕ} {from a b n₁ n₂ n : ℕ}
      → PartCall u records from a (Ok n₁) u'
      → SameDrive v u' → PartCall v records (from + n₁) b (Ok n₂) v'
      → SameDrive w u → PartCall w records from (a + b) (Ok n) w'
      → Joined n₁ u' n₂ v' n w'
  -- A replay of all the records is the run of them.
  pub whole_part : {w w' : Lending} {records : List ℕ} {limit n : ℕ} → PartCall w records 0 limit (Ok n) w' → record_count records ≤ limit
      → RunOnWords w.state records w.sectors w.staging w.answers 0 w'.state w'.sectors w'.staging w'.answers
      × (w'.answers ≡ written_over w.answers (words_of_answers (answers (machine_in w.state w.sectors w.staging) (events_of records))))
      × (w'.gaps ≡ written_over w.gaps (gaps_of records))
  -- "A limit of 0 runs nothing."
  pub nothing_of_0 : {w w' : Lending} {records : List ℕ} {from n : ℕ} → PartCall w records from 0 (Ok n) w' → (n ≡ 0) × (w' ≡ w)
  -- "ticks are 16 bits"
  pub ticks_fit : (records : List ℕ) → AllOctets records → (i : ℕ) → tick_at records i < 65536
  -- "the gap is the later tick less the earlier one, going round", and no other number is.
  pub gap_is_the_difference : (earlier later : ℕ) → earlier < 65536 → later < 65536 → Difference earlier later (gap earlier later)
  pub no_other_difference : (earlier later n : ℕ) → earlier < 65536 → Difference earlier later n → n ≡ gap earlier later
