-- Wrong answers of the calls of `reading`: what a careless programmer would get, and no promise allows.
use Rattle.std.specs.Prelude.{◌≡◌, ℕ, List, [], ◌∷◌, true, false, Some, None, Ok, Err, replicate}
use Rattle.std.specs.declared.env.FillError.TheVariants.{NotPresent, TooLong}
use Rattle.bench.specs.Report.{report_of, part_report_of}
use Rattle.bench.specs.declared.report.Wanted.TheVariants.{All}
use Rattle.reading.specs.Arguments.{has_arguments}
use Rattle.reading.specs.Input.{InputReplayed, ReadFull}

-- Room for a short report.
abbrev pub blank : List ℕ
blank = replicate 16 0

pub record WrongAnswers : Type 0 where
  -- ---- `replay_input`
  -- Nothing was read, and the text is left as it was: document 01 asks for `refused 12`.
  pub nothing_told : InputReplayed (report_of All) [] blank 0 blank → ⊥
  -- One octet is said to be read where there is none.
  pub count_beyond_the_slice : InputReplayed (report_of All) [] blank 1 blank → ⊥
  -- ---- `part_input`
  -- The arguments are no numbers, and nothing is said.
  pub bad_arguments_not_told : InputReplayed (part_report_of None None) [] blank 0 blank → ⊥
  -- An octet of no capture was read, and the text is left as it was.
  pub part_not_told : InputReplayed (part_report_of (Some 0) (Some 1)) (7 ∷ []) blank 1 blank → ⊥
  -- ---- `has_arguments`
  -- There is one argument more.
  pub one_more_overlooked : true ≡ has_arguments (Ok 1) (Ok 1) → ⊥
  -- The last one is there, though longer than its room.
  pub long_one_overlooked : false ≡ has_arguments (Err TooLong) (Err NotPresent) → ⊥
  -- ---- `read_full`
  -- One octet is counted where there is room for none.
  pub counted_beyond_the_room : ReadFull None None [] 1 → ⊥
  -- The reader had 07, and 09 is said to be read.
  pub another_octet_read : ReadFull (Some (7 ∷ [])) (Some []) (9 ∷ []) 1 → ⊥
  -- The reader had 07 and has it no more, and nothing is said to be read.
  pub octet_dropped : ReadFull (Some (7 ∷ [])) (Some []) (7 ∷ []) 0 → ⊥
