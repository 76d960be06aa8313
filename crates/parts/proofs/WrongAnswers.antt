-- `specs/WrongAnswers` proved: each differs from the right answer, which antt computes.
-- Assumes nothing.
use Prim.Native.Nat.{ℕ}
use mathlib.Core.Path.{refl, ap}
use mathlib.Core.Bool.{true≢false, false≢true}
use Rattle.laws.specs.Pick.{pick}
use Rattle.laws.proofs.Differ.{differ}
use Rattle.parts.specs.Setup.{within_limits, sector_number, sector_start, is_place, is_target, following, all_words, lacks_room}
use Rattle.parts.specs.Command.{code_of, parameter_words}
use Rattle.parts.specs.Control.{control_of, header_passes, data_words, words_to_come}
use Rattle.parts.specs.Holding.{is_busy, released}
use Rattle.parts.specs.Pending.{octet0, with_bit, noticed, faulted}
use Rattle.parts.specs.WrongAnswers.{WrongAnswers}
use Rattle.parts.specs.declared.holding.Holding.{Holding}
use Rattle.parts.specs.declared.pending.Pending.{Pending}
use Rattle.parts.specs.declared.transfer.Transfer.{Transfer}

abbrev owner_in : Holding → ℕ
owner_in h = h.owner

pub wrong_answers : WrongAnswers
unfolding pick within_limits sector_number sector_start all_words lacks_room is_place is_target following control_of code_of header_passes data_words parameter_words words_to_come is_busy released with_bit noticed faulted octet0
wrong_answers =
    record {
      read_for_d0 = λ h. false≢true h.on_paper;
      write_for_80 = λ h. false≢true h.on_paper;
      invalid_for_reserve_code = λ h. false≢true h.on_paper;
      low_is_data = true≢false;
      high_is_code = false≢true;
      one_for_cylinder = differ refl;
      words_for_format = differ refl;
      unequal_reserves = λ h. false≢true h.on_paper;
      unlisted_acts = λ h. false≢true h.on_paper;
      step_head_writes = true≢false;
      first_write_left_out = false≢true;
      reserved_reads = true≢false;
      first_read_left_out = false≢true;
      field1_left_out = false≢true;
      field1_by_bit_1 = true≢false;
      field2_left_out = false≢true;
      field2_by_bit_0 = true≢false;
      verify_left_out = false≢true;
      write_verifies = true≢false;
      verify_moves = true≢false;
      target_moves_none = false≢true;
      write_at_target = true≢false;
      target_left_out = false≢true;
      no_words_pass = differ refl;
      words_pass_anyway = differ refl;
      verify_takes_none = false≢true;
      skipped_header_passes = true≢false;
      header_counted = differ refl;
      header_not_counted = differ refl;
      last_octet_overlooked = true≢false;
      used_octet_refused = false≢true;
      used_word_refused = false≢true;
      third_octet_overlooked = true≢false;
      first_octet_overlooked = true≢false;
      zeros_refused = false≢true;
      word_low_first = differ refl;
      low_octet_alone = differ refl;
      bit_7_overlooked = false≢true;
      own_address_refused = true≢false;
      bit_3_overlooked = false≢true;
      holds_refused = true≢false;
      plain_with_both_bits = λ h. differ refl h.on_paper;
      strong_without_bit_1 = λ h. differ refl h.on_paper;
      free_with_owner = λ h. differ refl (ap owner_in h.answer);
      free_with_hold = λ h. differ refl h.on_paper;
      other_owner_overlooked = false≢true;
      nobody_owns = true≢false;
      plain_broken_by_select = false≢true;
      none_not_broken = true≢false;
      owner_stays = λ h. differ refl (ap owner_in h.answer);
      hold_lost = λ h. differ refl h.on_paper;
      notice_of_a_reset = λ h. differ refl (ap (λ (p : Pending). p.octet1) h);
      notice_clears_the_reset = λ h. differ refl (ap (λ (p : Pending). p.octet1) h);
      control_as_parameter = λ h. differ refl (ap (λ (p : Pending). p.octet2) h);
      fault_clears_another = λ h. differ refl (ap (λ (p : Pending). p.octet2) h);
      octet_1_as_octet_2 = differ refl;
      octet_2_overlooked = differ refl;
      selection_before_form = differ refl;
      transfer_before_selection = differ refl;
      address_before_selected = differ refl;
      busy_before_mode = differ refl;
      cylinder_too_many = true≢false;
      no_header_refused = false≢true;
      last_word_overlooked = false≢true;
      room_denied = true≢false;
      sector_without_header = differ refl;
      sector_of_field1 = differ refl;
      start_of_the_track = differ refl;
      cylinder_of_one_head = differ refl;
      cylinder_after_the_last = true≢false;
      last_place_refused = false≢true;
      no_target_refused = false≢true;
      sector_after_the_last = true≢false;
      never_around = differ refl;
      always_around = differ refl;
      none_with_control = λ h. differ refl (ap (λ (t : Transfer). t.control) h);
      none_with_a_word = λ h. differ refl (ap (λ (t : Transfer). t.moved) h);
    }
