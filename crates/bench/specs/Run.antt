-- The run of a capture's records over the bench drive, as the lines of a report.
use Rattle.std.specs.Prelude.{ℕ, ◌+◌, List, [], ◌∷◌, ◌++◌, length, replicate}
use Rattle.parts.specs.declared.event.Event.{Event}
use Rattle.drive.specs.declared.answer.Answer.{Answer}
use Rattle.drive.specs.Power.{at_rest}
use Rattle.drive.specs.Run.{Machine, machine, answers, final}
use Rattle.drive.specs.Batch.{events_of}
use Rattle.drive.specs.Cases.{bench}
use Rattle.bench.specs.Text.{numbered_line}
use Rattle.bench.specs.Line.{line_of, owner_line}

-- "Address 3; 2 cylinders, 2 heads, 3 sectors; header 1, field 1 of 2, field 2 of 1: 48 words." "The replay .. uses the bench drive
-- below with all words zero".
abbrev pub bench_at_rest : Machine
bench_at_rest = machine (at_rest bench) (replicate 48 0) (replicate 4 0)

-- "events "
abbrev pub events_word : List ℕ
events_word = 0x65 ∷ 0x76 ∷ 0x65 ∷ 0x6E ∷ 0x74 ∷ 0x73 ∷ 0x20 ∷ []

-- "a line each": the events are numbered one after another.
unfoldable pub lines_from : ℕ → List Event → List Answer → List ℕ
lines_from number [] told = []
lines_from number (e ∷ events) [] = []
lines_from number (e ∷ events) (answer ∷ told) = line_of number e.port answer ++ lines_from (number + 1) events told

-- The lines of a run from this machine, and the line of the owner after the last event.
unfoldable pub lines_of_run : ℕ → Machine → List Event → List ℕ
lines_of_run number m events = lines_from number events (answers m events) ++ owner_line (final m events).drive.holding.owner

-- "the replay writes exactly: `events 3`, .. `owner none`, a line each", with the events counted from 1.
unfoldable pub run_report : List ℕ → List ℕ
run_report records = numbered_line events_word (length (events_of records)) ++ lines_of_run 1 bench_at_rest (events_of records)
