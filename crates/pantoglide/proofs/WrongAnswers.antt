-- The wrong answers of the calls that C makes break their promises, by computation.
-- Assumes nothing.
use mathlib.Core.Path.{refl, ap}
use lib.ListN.{get_or}
use Rattle.laws.proofs.Differ.{told_apart, differ_at}
use Rattle.lines.specs.Moves.{entry_of, said_by}
use Rattle.lines.specs.Follower.{lacks_history, remembers, moved_by, is_reached, step_of}
use Rattle.lines.specs.Reading.{octet_of, step_by_step}
use Rattle.lines.specs.Turns.{read_plainly}
use Rattle.defects.proofs.Computing.{computing_maps}
use Rattle.events.proofs.Computing.{computing_words}
use Rattle.pantoglide.specs.Line.{setting_in, follower_in, follower_octet}
use Rattle.pantoglide.specs.WrongAnswers.{WrongLines, WrongAnswers}
use Rattle.pantoglide.proofs.LinesAlike.{lines_alike}

wrong_lines : WrongLines step_by_step
unfolding computing_words is_reached setting_in follower_in
wrong_lines =
    record {
      no_follower_written_back = λ h. differ_at 0 refl h.follower;
      read_as_far_as_there_is_room = λ h. told_apart 0 10 refl h.refusal;
      trace_refused = λ h. told_apart 8 0 refl h.refusal;
    }

-- what the table's call does not promise, the plain one does not promise either
wrong_plain_lines : WrongLines read_plainly
wrong_plain_lines =
    record {
      no_follower_written_back = λ h. wrong_lines.no_follower_written_back (lines_alike.alike.0 h);
      read_as_far_as_there_is_room = λ h. wrong_lines.read_as_far_as_there_is_room (lines_alike.alike.0 h);
      trace_refused = λ h. wrong_lines.trace_refused (lines_alike.alike.0 h);
    }

pub wrong_answers : WrongAnswers
unfolding computing_words computing_maps entry_of said_by lacks_history remembers moved_by is_reached step_of setting_in follower_in follower_octet octet_of
wrong_answers =
    record {
      cylinders_for_heads = λ h. told_apart 2 1 refl (ap (λ words. get_or words 0 0) h.state);
      port_for_kind = λ h. told_apart 8 0 refl h.refusal;
      parameter_staged = λ h. told_apart 1 0 refl (ap (λ words. get_or words 0 0) h.staging);
      reservation_forgotten = λ h. told_apart 2 0 refl (ap (λ words. get_or words 8 0) h.state);
      staging_for_sectors = λ h. told_apart 10 0 refl (ap (λ words. get_or words 0 0) h.out);
      limit_for_from = λ h. told_apart 0 1 refl (ap (λ words. get_or words 0 0) h.ran);
      number_forgotten = λ state answers gaps h. told_apart 7 1 refl (ap (λ words. get_or words 0 0) h.ran);
      taken_without_the_number = λ state answers gaps h. told_apart 0 10 refl h.refusal;
      drives_for_controllers = λ h. told_apart 18 17 refl h.answer;
      bit7_taken = λ h. told_apart 17 11 refl h.answer;
      first_record_for_notes = λ h. told_apart 8 0 refl h.first;
      refused_yet_counted = λ h. told_apart 0 7 refl h.count;
      torn_records_taken = λ h. told_apart 0 8 refl h.refusal;
      trailer_not_counted = λ h. told_apart 24 32 refl h.size;
      lines_by_the_table = wrong_lines;
      lines_plainly = wrong_plain_lines;
      history_forgotten = λ h. told_apart 0x10 0x30 refl (ap (λ words. get_or words 0 0) h.follower);
      head_forgotten = λ h. told_apart 7 1 refl h.head;
      refused_yet_written = λ h. told_apart 0 7 refl h.cylinder;
      length_for_offset = λ h. differ_at 9 refl h.octets;
      twelve_too_few = λ h. told_apart 10 0 refl h.refusal;
      first_track_for_last = λ h. told_apart 0 1 refl h.head;
      sectors_for_heads = λ h. told_apart 0 2 refl h.sector;
      order_broken_taken = λ defects h. told_apart 0 24 refl h.refusal;
      crc_of_one_less_taken = λ defects h. told_apart 0 26 refl h.refusal;
      cylinder_behind_the_last_taken = λ defects h. told_apart 0 23 refl h.refusal;
      offset_forgotten = λ h. told_apart 7 19 refl h.offset;
      offset_cleared = λ h. told_apart 0 7 refl h.offset;
      one_copy_counted = λ h. told_apart 16 48 refl h.size;
      storage_changed_over = λ h. differ_at 11 refl h.out;
      first_track_read = λ defects h. told_apart 0 18 refl h.refusal;
      rest_of_the_cylinder_judged = λ defects h. told_apart 28 0 refl h.refusal;
      header_written_over = λ h. differ_at 81 refl h.sectors;
      first_track_written = λ h. differ_at 82 refl h.sectors;
    }
