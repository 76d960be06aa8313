-- The wrong answers of the calls of `reading` break their promises.
-- Assumes nothing.
use Rattle.std.proofs.Common.{true≢false, length}
use mathlib.Core.Path.{refl, ap, sym}
use mathlib.Core.List.{List}
use Prim.Native.Nat.{ℕ}
use native.Mathlib.Omega.{arith}
use lib.ListN.{get_or}
use Rattle.laws.specs.Pick.{pick}
use Rattle.laws.proofs.Differ.{told_apart}
use Rattle.bench.specs.Text.{decimal_within, decimal, numbered_line}
use Rattle.bench.specs.Report.{capture_report, report_of}
use Rattle.reading.specs.WrongAnswers.{WrongAnswers}

pub wrong_answers : WrongAnswers
unfolding pick decimal_within decimal numbered_line capture_report report_of
wrong_answers =
    record {
      nothing_told = λ h. told_apart 0 0x72 refl (ap (λ (text : List ℕ). get_or text 0 0) h.told.slice);
      count_beyond_the_slice = λ h. omega (arith, h.few);
      bad_arguments_not_told = λ h. told_apart 0 0x62 refl (ap (λ (text : List ℕ). get_or text 0 0) h.told.slice);
      part_not_told = λ h. told_apart 0 0x72 refl (ap (λ (text : List ℕ). get_or text 0 0) h.told.slice);
      one_more_overlooked = λ h. true≢false h;
      long_one_overlooked = λ h. true≢false (sym h);
      counted_beyond_the_room = λ h. omega (arith, h.few);
      another_octet_read = λ h. told_apart 7 9 refl (ap (λ (octets : List ℕ). get_or octets 0 0) h.read);
      octet_dropped = λ h. omega (arith, ap length h.read);
    }
