-- `specs/WrongAnswers` proved: each differs from the right answer, which antt computes.
-- Assumes nothing.
use mathlib.Core.Path.{refl, ap}
use lib.ListN.{length}
use Rattle.laws.specs.Pick.{pick}
use Rattle.laws.proofs.Differ.{differ, differ_at, told_apart}
use Rattle.capture.specs.Record.{record_of}
use Rattle.capture.specs.Capture.{notes_of, records_of}
use Rattle.capture.specs.Cases.{second_event}
use Rattle.capture.specs.WrongAnswers.{WrongAnswers}
use Rattle.capture.specs.declared.«record».Record.{Record}
use Rattle.refusals.proofs.OnPaper.{same_number, same_value}

pub wrong_answers : WrongAnswers
unfolding pick record_of notes_of records_of
wrong_answers =
    record {
      tick_low_first = λ h. differ refl (ap (λ (event : Record). event.tick) (same_value second_event h.answer));
      ten_for_9_octets = λ h. told_apart 10 0 refl (same_number h.answer);
      written_into_7 = λ h. told_apart 0 10 refl h.answer;
      arguments_changed_over = λ h. differ_at 4 refl h.slice;
      record_too_far = λ h. told_apart 0 14 refl (same_number h.answer);
      other_mark_taken = λ h. told_apart 0 13 refl (same_number h.answer);
      notes_of_a_refused = λ h. differ_at 0 refl h.notes;
      notes_into_a_record = λ h. differ refl (ap length h.notes);
      trailer_taken_in = λ h. differ_at 27 refl h.records;
      first_record_missing = λ h. differ_at 1 refl h.records;
      distance_low_first = λ h. differ_at 24 refl h.slice;
      records_over_the_notes = λ h. differ_at 0 refl h.slice;
    }
