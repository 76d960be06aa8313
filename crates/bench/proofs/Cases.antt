-- Document 01's own capture gives exactly its report, whole and in parts, computed.
-- Assumes nothing.
use mathlib.Core.Path.{refl}
use Rattle.capture.specs.Capture.{records_of}
use Rattle.numbers.specs.Number.{number_in}
use Rattle.events.proofs.Computing.{computing_words}
use Rattle.bench.specs.Text.{decimal_within, decimal, numbered_line, hex_digit}
use Rattle.bench.specs.Line.{line_of, gap_line_of, owner_line}
use Rattle.bench.specs.Run.{lines_from, lines_of_run, run_report}
use Rattle.bench.specs.Part.{gap_lines, next_line, part_report}
use Rattle.bench.specs.Report.{capture_report, report_of}
use Rattle.bench.specs.Cases.{ReplayCases}

pub replay_cases : ReplayCases
unfolding computing_words number_in records_of decimal_within decimal numbered_line hex_digit line_of owner_line lines_from lines_of_run run_report gap_line_of gap_lines next_line part_report capture_report report_of
replay_cases = record { three = refl; empty = refl; stopped = refl; continued = refl; unclear = refl }
