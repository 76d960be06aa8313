-- M-103: a part of a capture replayed over the bench drive, as the lines of a report.
use Rattle.std.specs.Prelude.{ℕ, ◌+◌, List, [], ◌∷◌, ◌++◌, ltb, length, take}
use Rattle.laws.specs.Pick.{pick}
use Rattle.parts.specs.declared.event.Event.{Event}
use Rattle.drive.specs.declared.answer.Answer.{Answer}
use Rattle.drive.specs.Run.{Machine, answers, final}
use Rattle.drive.specs.Batch.{events_of, record_count}
use Rattle.events.specs.Part.{part, part_of, gaps_of}
use Rattle.bench.specs.Text.{newline, numbered_line}
use Rattle.bench.specs.Line.{gap_line_of, owner_line}
use Rattle.bench.specs.Run.{bench_at_rest}

-- `ran `
abbrev pub ran_word : List ℕ
ran_word = 0x72 ∷ 0x61 ∷ 0x6E ∷ 0x20 ∷ []

-- `next `
abbrev pub next_word : List ℕ
next_word = 0x6E ∷ 0x65 ∷ 0x78 ∷ 0x74 ∷ 0x20 ∷ []

-- `end`, and a newline.
abbrev pub end_line : List ℕ
end_line = 0x65 ∷ 0x6E ∷ 0x64 ∷ newline ∷ []

-- A line for each event that was run, each with its gap. The events are numbered one after another.
unfoldable pub gap_lines : ℕ → List Event → List Answer → List ℕ → List ℕ
gap_lines number [] told gaps = []
gap_lines number (e ∷ events) [] gaps = []
gap_lines number (e ∷ events) (answer ∷ told) [] = []
gap_lines number (e ∷ events) (answer ∷ told) (gap ∷ gaps) = gap_line_of number e.port answer gap ++ gap_lines (number + 1) events told gaps

-- Where the next part begins, or that no record is left.
unfoldable pub next_line : ℕ → ℕ → List ℕ
next_line count next = pick (ltb next count) (numbered_line next_word next) end_line

-- The drive after the events before the part.
abbrev pub bench_before : List ℕ → ℕ → Machine
bench_before records from = final bench_at_rest (take from (events_of records))

-- How many events were run, their lines, the owner behind the last, and of so many records where the next part begins.
abbrev pub part_text : ℕ → List ℕ → ℕ → ℕ → ℕ → List ℕ
part_text ran lines owner count next = numbered_line ran_word ran ++ lines ++ owner_line owner ++ next_line count next

-- The lines are numbered over the whole capture, from 1.
unfoldable pub part_report : ℕ → ℕ → List ℕ → List ℕ
part_report from limit records =
    let events = part_of records from limit in
    let before = bench_before records from in
    let lines = gap_lines (from + 1) events (answers before events) (part from limit (gaps_of records)) in
    part_text (length events) lines (final before events).drive.holding.owner (record_count records) (from + length events)
