-- The wrong answers of `replay` and `replay_part` break their promises, by computation.
-- Assumes nothing.
use mathlib.Core.Path.{refl, ap}
use lib.ListN.{get_or}
use Rattle.laws.proofs.Differ.{told_apart}
use Rattle.refusals.proofs.OnPaper.{same_number}
use Rattle.capture.specs.Capture.{records_of}
use Rattle.events.proofs.Computing.{computing_words}
use Rattle.bench.specs.Text.{decimal_within, decimal, numbered_line, hex_digit}
use Rattle.bench.specs.Line.{line_of, gap_line_of, owner_line}
use Rattle.bench.specs.Run.{lines_from, lines_of_run, run_report}
use Rattle.bench.specs.Part.{gap_lines, next_line, part_report}
use Rattle.bench.specs.Report.{capture_report, report_of}
use Rattle.bench.specs.WrongAnswers.{WrongAnswers}

pub wrong_answers : WrongAnswers
unfolding computing_words records_of decimal_within decimal numbered_line hex_digit line_of owner_line lines_from lines_of_run run_report gap_line_of gap_lines next_line part_report capture_report report_of
wrong_answers =
    record {
      status_of_arefused_event = λ h. told_apart 0x30 0x2D refl (ap (λ text. get_or text 24 0) h.slice);
      first_event_left_out = λ h. told_apart 0x32 0x33 refl (ap (λ text. get_or text 7 0) h.slice);
      selected_port_for_the_owner = λ h. told_apart 0x6E 0x30 refl (ap (λ text. get_or text 33 0) h.slice);
      cut_off = λ h. told_apart 0 10 refl (same_number h.answer);
      numbered_from_one = λ h. told_apart 0x31 0x32 refl (ap (λ text. get_or text 6 0) h.slice);
      events_before_not_run = λ h. told_apart 0x30 0x36 refl (ap (λ text. get_or text 10 0) h.slice);
      next_behind_the_last = λ h. told_apart 0x6E 0x65 refl (ap (λ text. get_or text 28 0) h.slice);
      refused_before_bad_arguments = λ h. told_apart 0x72 0x62 refl (ap (λ text. get_or text 0 0) h.slice);
    }
