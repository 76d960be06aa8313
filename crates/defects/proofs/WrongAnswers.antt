-- `specs/WrongAnswers` proved: each differs from the right answer, which antt computes.
-- Assumes nothing.
use Prim.Native.Nat.{ℕ}
use mathlib.Core.Path.{refl, ap}
use Rattle.laws.proofs.Differ.{differ, differ_at, never}
use Rattle.defects.specs.WrongAnswers.{WrongAnswers}
use Rattle.std.specs.Prelude.{Result, Ok, Err}
use Rattle.std.proofs.Math.Option.{Option, some, none}
use Rattle.laws.specs.Rows.{Paper}
use Rattle.parts.specs.declared.setup.Place.{Place}
use Rattle.defects.specs.Offence.{Found}
use Rattle.defects.specs.declared.decoding.MapRead.{MapRead}
use Rattle.defects.specs.declared.defect.Defect.{Defect}
use Rattle.defects.proofs.Computing.{computing_maps}

abbrev cylinder_in : Option Defect → ℕ
cylinder_in (some d) = d.cylinder
cylinder_in none = 0

abbrev head_in : Option Place → ℕ
head_in (some place) = place.head
head_in none = 0

abbrev number_in : Option ℕ → ℕ
number_in (some n) = n
number_in none = 0

-- What an answer tells: how many defects, or where the offence lies.
abbrev count_in : Result MapRead Found → ℕ
count_in (Ok map) = map.count
count_in (Err found) = 99

abbrev offset_in : Result MapRead Found → ℕ
offset_in (Ok map) = 99
offset_in (Err found) = found.offset

pub wrong_answers : WrongAnswers
unfolding computing_maps
wrong_answers =
    record {
      cylinder_low_first = λ h. differ refl (ap (λ (p : Paper Defect). cylinder_in p.value) h.answer);
      ten_for_13_octets = λ h. differ refl (ap (λ (p : Paper Defect). number_in p.refusal) h.answer);
      written_into_11 = λ h. never (cc);
      octet_behind_cleared = λ h. differ_at 12 refl h.slice;
      first_track_taken = λ h. differ refl (ap (λ (p : Paper Place). head_in p.value) h.answer);
      cylinder_below_taken = λ h. differ refl (ap (λ (p : Paper Place). head_in p.value) h.answer);
      order_broken_taken_lem = λ after h. differ refl (ap count_in h.answer);
      crc_of_one_less_taken_lem = λ after h. differ refl (ap count_in h.answer);
      cylinder_behind_the_last_taken_lem = λ after h. differ refl (ap count_in h.answer);
      offset_within_the_data_field = λ after h. differ refl (ap offset_in h.answer);
      listed_before_refused = λ h. differ_at 0 refl h.slice;
      listed_three_times = λ after h. differ refl (ap count_in h.answer);
      bit_forgotten = λ h. differ_at 86 refl h.slice;
      two_copies_fit = λ after h. differ refl (ap (λ (p : Paper ℕ). number_in p.refusal) h.answer);
      first_track_read_lem = λ after h. differ refl (ap count_in h.answer);
      rest_of_the_cylinder_judged_lem = λ after h. differ refl (ap offset_in h.answer);
      first_track_written_lem = λ h. differ_at 82 refl h.sectors;
      header_written_over_lem = λ h. differ_at 81 refl h.sectors;
    }
