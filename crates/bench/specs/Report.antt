-- The report of a capture, or of a part of it, and the promises of `replay` and `replay_part`.
use Rattle.std.specs.Prelude.{ℕ, ◌≡◌, List, [], ◌∷◌, Option, Some, None, Result, ltb, length}
use Rattle.laws.specs.Pick.{pick}
use Rattle.laws.specs.Rows.{Row, first, ◌when◌, unless_refused, refused_or}
use Rattle.laws.specs.Lists.{written_over}
use Rattle.capture.specs.Capture.{capture_refusal, records_of}
use Rattle.bench.specs.Text.{numbered_line}
use Rattle.bench.specs.Run.{run_report}
use Rattle.bench.specs.Part.{part_report}
use Rattle.bench.specs.declared.report.Wanted.{Wanted}
use Rattle.bench.specs.declared.report.Wanted.TheVariants.{All, Stretch}
use Rattle.refusals.specs.Refusal.{on_paper}
use Rattle.refusals.specs.declared.refusal.Refusal.{Refusal}

-- "`too long`", and a newline.
abbrev pub too_long : List ℕ
too_long = 0x74 ∷ 0x6F ∷ 0x6F ∷ 0x20 ∷ 0x6C ∷ 0x6F ∷ 0x6E ∷ 0x67 ∷ 0x0A ∷ []

-- "refused "
abbrev pub refused_word : List ℕ
refused_word = 0x72 ∷ 0x65 ∷ 0x66 ∷ 0x75 ∷ 0x73 ∷ 0x65 ∷ 0x64 ∷ 0x20 ∷ []

-- `bad arguments`, and a newline.
abbrev pub bad_arguments : List ℕ
bad_arguments = 0x62 ∷ 0x61 ∷ 0x64 ∷ 0x20 ∷ 0x61 ∷ 0x72 ∷ 0x67 ∷ 0x75 ∷ 0x6D ∷ 0x65 ∷ 0x6E ∷ 0x74 ∷ 0x73 ∷ 0x0A ∷ []

-- All of the records, or those from one on and at most so many.
abbrev pub run_of : Wanted → List ℕ → List ℕ
run_of All records = run_report records
run_of (Stretch from limit) records = part_report from limit records

-- "writes only `refused N` for a capture refused with N"
unfoldable pub capture_report : Wanted → List ℕ → List ℕ
capture_report wanted octets =
    unless_refused (capture_refusal octets) (numbered_line refused_word (capture_refusal octets)) (run_of wanted (records_of octets))

-- "only `too long` for more than 65,536 octets": whatever they are.
unfoldable pub report_of : Wanted → List ℕ → List ℕ
report_of wanted octets = pick (ltb 65536 (length octets)) too_long (capture_report wanted octets)

-- M-103, of the arguments FROM and LIMIT: where they are not two numbers, that is said and nothing else, before the capture is looked at.
abbrev pub part_report_of : Option ℕ → Option ℕ → List ℕ → List ℕ
part_report_of (Some from) (Some limit) octets = report_of (Stretch from limit) octets
part_report_of (Some from) None octets = bad_arguments
part_report_of None limit octets = bad_arguments

-- 10: "a lent slice too short"
abbrev pub report_rows : List ℕ → List ℕ → List Row
report_rows report slice = 10 when ltb (length slice) (length report) ∷ []

abbrev pub report_refusal : List ℕ → List ℕ → ℕ
report_refusal report slice = first (report_rows report slice)

-- The promise of a call that puts a report at the front of a slice: how many octets the report has, and all octets of the slice.
pub record Reported (report before after : List ℕ) (r : Result ℕ Refusal) : Type 0 where
  pub answer : on_paper r ≡ refused_or (report_rows report before) (length report)
  pub slice : after ≡ unless_refused (report_refusal report before) before (written_over before report)
