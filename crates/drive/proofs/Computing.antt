-- The definitions that an event, a run and what is read off a run compute with: `unfolding computing` opens them all.
-- Assumes nothing.
use Rattle.laws.specs.Pick.{pick}
use Rattle.parts.specs.Setup.{within_limits, all_words, sector_number, sector_start, is_place, is_target, following}
use Rattle.parts.specs.Command.{code_of, parameter_words, function_of, function_in}
use Rattle.parts.specs.Control.{control_of, header_passes, data_words, words_to_come, words_read}
use Rattle.parts.specs.Holding.{hold_set, is_busy, granted_to, released}
use Rattle.parts.specs.Pending.{with_bit, noticed, faulted, octet0}
use Rattle.drive.specs.State.{pending_on, posted_on}
use Rattle.drive.specs.Drive.{owner_noticed, selected, deselected, after_reset, reserved, unreserved, priority_reserved, head_stepped, at_its_target, closed, ended}
use Rattle.drive.specs.Command.{kept_as, place_sought, target_sought, seeking, obeyed, parameter_sent, words_told, status_cleared, response_taken, word_from_host, word_to_host, ended_early}
use Rattle.drive.specs.Request.{bad_request, octet2_cleared, opened, opening, data_control, positioned, targeted, status_read}
use Rattle.parts.specs.Kind.{kind_of}
use Rattle.drive.specs.Refusal.{row11, row10, refusal_of}
use Rattle.parts.specs.Tests.{is_outside_limits, is_disowned, is_broken_transfer, has_stray_bit}
use Rattle.drive.specs.Transfer.{miscompares, committed, staged, word_staged, word_taken}
use Rattle.drive.specs.Event.{handled}
use Rattle.drive.specs.Run.{answer_to, after, answers, final}
use Rattle.drive.specs.Answer.{paper}
use Rattle.drive.specs.AnswerWords.{answer_words}
use Rattle.drive.specs.AnswerWords as words
use Rattle.drive.specs.Batch.{event_of, events_in}
use Rattle.drive.specs.Frame.{word_written}
use Rattle.drive.specs.Journal.{page_after, journal_from, last_write}
use Rattle.drive.specs.Standing.{stands_after, standing_from}
use Rattle.drive.specs.Reading.{offset_of}
use Rattle.drive.specs.Accepted.{accepted}

unfoldable pub computing : Unit {0}
unfolding pick within_limits all_words sector_number sector_start is_place is_target following control_of code_of parameter_words function_of function_in header_passes data_words words_to_come words_read hold_set is_busy granted_to released with_bit noticed faulted octet0 pending_on posted_on owner_noticed selected deselected after_reset reserved unreserved priority_reserved head_stepped at_its_target closed ended bad_request octet2_cleared opened opening data_control positioned targeted status_read kind_of is_outside_limits is_disowned is_broken_transfer has_stray_bit row11 row10 refusal_of miscompares committed staged word_staged word_taken kept_as place_sought target_sought seeking obeyed parameter_sent words_told status_cleared response_taken word_from_host word_to_host ended_early handled answer_to after answers final paper word_written page_after journal_from last_write stands_after standing_from offset_of accepted answer_words words.words_of_answers event_of events_in
computing = tt
