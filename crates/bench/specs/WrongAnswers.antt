-- Wrong answers of `replay` and `replay_part`: reports that a careless programmer would write, and no promise allows.
use Rattle.std.specs.Prelude.{ℕ, List, [], ◌∷◌, ◌++◌, Some, None, Ok, length, replicate, take}
use Rattle.laws.specs.Lists.{written_over}
use Rattle.capture.specs.Cases.{three_events, its_trailer}
use Rattle.bench.specs.Text.{space, newline, digit}
use Rattle.bench.specs.Line.{no_status, owner_word, none_word}
use Rattle.bench.specs.Run.{events_word}
use Rattle.bench.specs.Part.{ran_word, next_word}
use Rattle.bench.specs.Report.{report_of, part_report_of, Reported}
use Rattle.bench.specs.declared.report.Wanted.TheVariants.{All}
use Rattle.bench.specs.Cases.{refused12}

-- "events 3", and a line of event, port, refusal and status.
abbrev events_line : ℕ → List ℕ
events_line count = events_word ++ (digit count ∷ newline ∷ [])

abbrev event_line : ℕ → ℕ → ℕ → List ℕ → List ℕ
event_line number port refusal status = digit number ∷ space ∷ digit port ∷ space ∷ digit refusal ∷ space ∷ status ++ (newline ∷ [])

-- A line of a part has a gap behind the status.
abbrev gap_line : ℕ → ℕ → ℕ → List ℕ → ℕ → List ℕ
gap_line number port refusal status gap = digit number ∷ space ∷ digit port ∷ space ∷ digit refusal ∷ space ∷ status ++ (space ∷ digit gap ∷ newline ∷ [])

-- The two digits of status 0.
abbrev zero_status : List ℕ
zero_status = digit 0 ∷ digit 0 ∷ []

abbrev owner_none : List ℕ
owner_none = owner_word ++ none_word ++ (newline ∷ [])

-- Port 0 selects with octet 32 and deselects: it still owns the drive.
abbrev held_capture : List ℕ
held_capture =
    0x00 ∷ 0x00 ∷ 0x00 ∷ 0x01 ∷ 0x32 ∷ 0x00 ∷ 0x00 ∷ 0x00
    ∷ 0x00 ∷ 0x09 ∷ 0x00 ∷ 0x02 ∷ 0x00 ∷ 0x00 ∷ 0x00 ∷ 0x00
    ∷ 0x00 ∷ 0x00 ∷ 0x00 ∷ 0x10 ∷ 0x49 ∷ 0x50 ∷ 0x49 ∷ 0x32
    ∷ []

-- A slice of 64 octets has this text at its front, which is told to be the report.
abbrev Tells : List ℕ → List ℕ → Type 0
Tells octets text = Reported (report_of All octets) (replicate 64 0) (written_over (replicate 64 0) text) (Ok (length text))

-- The same of a part of it.
abbrev TellsPart : ℕ → ℕ → List ℕ → List ℕ → Type 0
TellsPart from limit octets text = Reported (part_report_of (Some from) (Some limit) octets) (replicate 64 0) (written_over (replicate 64 0) text) (Ok (length text))

pub record WrongAnswers : Type 0 where
  -- ---- `replay`
  -- A status for a refused event of document 01's own capture.
  pub status_of_arefused_event : Tells (three_events ++ its_trailer)
      (events_line 3 ++ event_line 1 0 0 no_status ++ event_line 2 1 6 zero_status ++ event_line 3 0 0 no_status ++ owner_none) → ⊥
  -- The first event of the same is left out: port 1 is granted the drive, and port 0's deselection refused.
  pub first_event_left_out : Tells (three_events ++ its_trailer)
      (events_line 2 ++ event_line 1 1 0 no_status ++ event_line 2 0 2 no_status ++ owner_word ++ (digit 1 ∷ newline ∷ [])) → ⊥
  -- The selected port is told for the owner.
  pub selected_port_for_the_owner : Tells held_capture (events_line 2 ++ event_line 1 0 0 no_status ++ event_line 2 0 0 no_status ++ owner_none) → ⊥
  -- A report is cut off where the slice ends.
  pub cut_off : Reported (report_of All []) (replicate 10 0) (take 10 refused12) (Ok 10) → ⊥
  -- ---- `replay_part`
  -- The lines of a part are numbered from 1: the second event of document 01's capture is its first.
  pub numbered_from_one : TellsPart 1 1 (three_events ++ its_trailer)
      (ran_word ++ (digit 1 ∷ newline ∷ []) ++ gap_line 1 1 6 no_status 5 ++ owner_word ++ (digit 0 ∷ newline ∷ []) ++ next_word ++ (digit 2 ∷ newline ∷ [])) → ⊥
  -- The events before the part are not run: port 1 is granted the drive.
  pub events_before_not_run : TellsPart 1 1 (three_events ++ its_trailer)
      (ran_word ++ (digit 1 ∷ newline ∷ []) ++ gap_line 2 1 0 no_status 5 ++ owner_word ++ (digit 1 ∷ newline ∷ []) ++ next_word ++ (digit 2 ∷ newline ∷ [])) → ⊥
  -- `next 3` where no record is left.
  pub next_behind_the_last : TellsPart 2 1 (three_events ++ its_trailer)
      (ran_word ++ (digit 1 ∷ newline ∷ []) ++ gap_line 3 0 0 no_status 4 ++ owner_none ++ next_word ++ (digit 3 ∷ newline ∷ [])) → ⊥
  -- A capture that is refused is told before bad arguments.
  pub refused_before_bad_arguments : Reported (part_report_of None (Some 1) []) (replicate 64 0) (written_over (replicate 64 0) refused12) (Ok 11) → ⊥
