-- The wrong answers of `handle`, `power_up_words`, `answer_event`, `run_records` and `replay_part` break their promises, by computation.
-- Assumes nothing.
use Rattle.std.proofs.Common.{get_or, refl, ap}
use Rattle.laws.proofs.Differ.{told_apart}
use Rattle.drive.specs.Answer.{refusal_in}
use Rattle.drive.specs.AnswerWords.{or_ffff}
use Rattle.drive.specs.declared.drive.Drive.{Drive}
use Rattle.events.specs.WrongAnswers.{WrongAnswers}
use Rattle.events.proofs.Computing.{computing_words}
use Rattle.events.proofs.Parts.{part_ran}

pub wrong_answers : WrongAnswers
unfolding computing_words
wrong_answers =
    record {
      refuses_all = λ h. told_apart 6 0 refl (ap refusal_in h.answer);
      does_nothing = λ h. told_apart 2 0 refl (ap (λ (d : Drive). d.holding.selected) h.drive);
      zero_for_abad_request = λ h. told_apart 0 8 refl (ap or_ffff h.says.status);
      header_not_compared = λ h. told_apart 0xFFFF 7 refl (ap or_ffff h.says.status);
      written_as_it_arrives = λ h. told_apart 0xAA 0 refl (ap (λ words. get_or words 1 0) h.sectors);
      field_over_the_header = λ h. told_apart 0xAA 7 refl (ap (λ words. get_or words 0 0) h.sectors);
      field_two_over_field_one = λ h. told_apart 0xCC 0 refl (ap (λ words. get_or words 1 0) h.sectors);
      read_afield_too_early = λ h. told_apart 7 1 refl (ap or_ffff h.says.word);
      old_bit_left = λ h. told_apart 0x80 0 refl (ap (λ (d : Drive). d.pending0.octet2) h.drive);
      other_port_cleared = λ h. told_apart 0 0x80 refl (ap (λ (d : Drive). d.pending1.octet2) h.drive);
      clears_with_c = λ h. told_apart 0 0x80 refl (ap (λ (d : Drive). d.pending0.octet2) h.drive);
      refused_yet_clears = λ h. told_apart 0 0x80 refl (ap (λ (d : Drive). d.pending0.octet2) h.drive);
      bits_add_up = λ h. told_apart 0xC0 0x40 refl (ap (λ (d : Drive). d.pending0.octet2) h.drive);
      cleared_unread = λ h. told_apart 0 0x80 refl (ap (λ (d : Drive). d.pending0.octet2) h.drive);
      last_word_clears = λ h. told_apart 0x40 0xC0 refl (ap (λ (d : Drive). d.pending0.octet2) h.drive);
      address_for_field_two = λ h. told_apart 3 1 refl (ap (λ words. get_or words 5 0) h.state);
      state_of20_taken = λ h. told_apart 0 10 refl h.answer;
      refused_yet_written = λ h. told_apart 2 0 refl (ap (λ words. get_or words 0 0) h.state);
      notice_to_the_winner = λ h. told_apart 0 0x4000 refl (ap (λ words. get_or words 16 0) h.state);
      state_of13_taken = λ h. told_apart 0 10 refl h.refusal;
      refusal_answered = λ h. told_apart 4 0 refl (ap (λ words. get_or words 0 0) h.answer);
      hold_of3_taken = λ h. told_apart 6 11 refl h.refusal;
      ten_before_eleven = λ h. told_apart 10 11 refl h.refusal;
      one_before_ten = λ h. told_apart 1 10 refl h.refusal;
      ten_for_torn_records = λ h. told_apart 10 8 refl h.refusal;
      eight_for_no_record = λ h. told_apart 8 0 refl h.refusal;
      record_left_out = λ h. told_apart 2 0 refl (ap (λ words. get_or words 7 0) h.state);
      answers_twelve_apart = λ h. told_apart 0xFFFF 6 refl (ap (λ words. get_or words 13 0) h.out);
      refused_not_counted = λ left h. told_apart 1 2 refl (part_ran h).0;
      one_more_than_the_limit = λ left h. told_apart 2 1 refl (part_ran h).0;
      one_record_late = λ h. told_apart 1 0 refl (ap (λ words. get_or words 7 0) h.state);
      gap_to_the_next = λ h. told_apart 4 0 refl (ap (λ words. get_or words 0 0) h.gaps);
      gap_forgotten = λ h. told_apart 0 4 refl (ap (λ words. get_or words 0 0) h.gaps);
      gap_not_round = λ h. told_apart 0 2 refl (ap (λ words. get_or words 1 0) h.gaps);
    }
