-- `specs/Cases` proved: antt computes each.
-- Assumes nothing.
use mathlib.Core.Path.{refl}
use Rattle.defects.specs.Cases.{Cases}
use Rattle.defects.proofs.Computing.{computing_maps}

pub cases : Cases
unfolding computing_maps
cases =
    record {
      check_value = refl;
      no_defects_lem = refl;
      one_defect_lem = refl;
      one_defect_lists = refl;
      out_of_sequence_lem = refl;
      out_of_sequence_lists = refl;
      one_ignored_lem = refl;
      not_full_lem = refl;
      not_full_lists = refl;
      flagged_without_need_lem = refl;
      flagged_without_need_lists = refl;
      all_ignored_lem = refl;
      count_wrong_lem = refl;
      continues = refl;
      copy_three_lem = refl;
      behind_the_last_cylinder_lem = refl;
      order_broken_lem = refl;
      octet_in_the_padding_lem = refl;
      bit_of_the_crc_lem = refl;
      third_copy_differs_lem = refl;
      fourth_data_field_lem = refl;
      cut_short = refl;
      no_room = refl;
      no_defects_anew = refl;
      one_defect_anew = refl;
      out_of_sequence_anew = refl;
      not_full_anew = refl;
      three_sets = refl;
      no_entries = refl;
      first_place = refl;
      next_track = refl;
      last_place = refl;
      none_left = refl;
    }
