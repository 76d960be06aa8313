-- What the private functions go by that make the lines of a part: the words that `replay_part` told. A reader of the report needs none of it.
use Rattle.std.specs.Prelude.{ℕ, zero, suc, ◌+◌, ◌-◌, ◌*◌, ◌/◌, ◌%◌, ◌≤◌, ◌≡◌, List, [], ◌∷◌, ◌++◌, eqb, length, get_or, drop, replicate, Result, Ok}
use Rattle.laws.specs.Pick.{pick}
use Rattle.refusals.specs.declared.refusal.Refusal.{Refusal}
use Rattle.drive.specs.Batch.{record_count}
use Rattle.events.specs.Part.{part_of}
use Rattle.bench.specs.Text.{hex_digit}
use Rattle.bench.specs.Line.{no_status, event_fields, with_gap}
use Rattle.bench.specs.Part.{part_text, part_report}

-- The status as its word tells it: FFFF where there is none.
unfoldable pub status_told_by : ℕ → List ℕ
status_told_by word = pick (eqb word 0xFFFF) no_status (hex_digit (word / 16 % 16) ∷ hex_digit (word % 16) ∷ [])

unfoldable pub told_line : ℕ → ℕ → ℕ → ℕ → ℕ → List ℕ
told_line number port refusal status gap = with_gap (event_fields number port refusal (status_told_by status)) gap

-- So many lines, of the records, the answers' words and the gaps.
unfoldable pub told_lines : ℕ → ℕ → List ℕ → List ℕ → List ℕ → List ℕ
told_lines number zero records answers gaps = []
told_lines number (suc count) records answers gaps =
    told_line number (get_or records 2 0) (get_or answers 0 0) (get_or answers 1 0) (get_or gaps 0 0)
    ++ told_lines (number + 1) count (drop 8 records) (drop 13 answers) (drop 1 gaps)

-- The report of a part that ran so many events.
abbrev pub told_report : ℕ → ℕ → ℕ → List ℕ → List ℕ → List ℕ → List ℕ
told_report from count owner records answers gaps =
    part_text count (told_lines (from + 1) count (drop (8 * from) records) answers gaps) owner (record_count records) (from + count)

-- The records, the answers' words and the gaps are there.
pub record There (from count : ℕ) (records answers gaps : List ℕ) : Type 0 where
  pub known : 8 * count ≤ length records - 8 * from
  pub told : 13 * count ≤ length answers
  pub gapped : count ≤ length gaps

-- What the two calls of a part lead to.
pub record Made (from limit : ℕ) (records : List ℕ) (r : Result ℕ Refusal) (state answers gaps : List ℕ) : Type 0 where
  pub ran : r ≡ Ok (length (part_of records from limit))
  pub few : length (part_of records from limit) ≤ record_count records - from
  pub report : told_report from (length (part_of records from limit)) (get_or state 8 0) records answers gaps ≡ part_report from limit records

-- What they ask: the records of a capture that is not too long, the words of a drive that is not up yet, and room for all answers and gaps.
pub record Ready (records state sectors staging answers gaps : List ℕ) : Type 0 where
  pub short : length records ≤ 65528
  pub whole : length records % 8 ≡ 0
  pub blank : state ≡ replicate 21 0
  pub zero_sectors : sectors ≡ replicate 48 0
  pub zero_staging : staging ≡ replicate 4 0
  pub room : length answers ≡ 106483
  pub gap_room : length gaps ≡ 8191
