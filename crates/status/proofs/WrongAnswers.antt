-- `specs/WrongAnswers` proved: each differs from the right answer, which antt computes.
-- Assumes nothing.
use mathlib.Core.Path.{refl}
use Rattle.refusals.proofs.OnPaper.{same_number}
use Rattle.laws.specs.Pick.{pick}
use Rattle.laws.proofs.Differ.{differ_at, told_apart}
use Rattle.status.specs.DriveStatus.{is_drive_status}
use Rattle.status.specs.Response.{unsolicited_octet, bus_control_octet, exception_octet, is_foreign}
use Rattle.status.specs.WrongAnswers.{WrongAnswers}

pub wrong_answers : WrongAnswers
unfolding pick is_drive_status unsolicited_octet bus_control_octet exception_octet is_foreign
wrong_answers =
    record {
      normal_for_02 = λ h. told_apart 0 8 refl (same_number h.answer);
      eight_for_no_octet = λ h. told_apart 8 10 refl (same_number h.answer);
      miscompare_as_06 = λ h. differ_at 0 refl h.slice;
      octet_1_changed = λ h. differ_at 1 refl h.slice;
      octet_1_bit_5_taken = λ h. told_apart 0 8 refl (same_number h.answer);
      unfit_octet_0_taken = λ h. told_apart 0 8 refl (same_number h.answer);
      octet_0_left_out = λ h. differ_at 0 refl h.slice;
      octet_7_left = λ h. differ_at 7 refl h.slice;
    }
