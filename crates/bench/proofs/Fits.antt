-- Every report fits in LONGEST_REPORT octets, and a text that is told lies in the slice.
-- Assumes nothing.
use Prim.Native.Nat.{ℕ, zero, suc, ◌≤◌}
use mathlib.Core.Path.{◌≡◌, refl}
use mathlib.Core.List.{List}
use native.Mathlib.Omega.{arith}
use borrow.Author.Tests.{ltb-false}
use lib.Dec.{ltb}
use lib.ListN.{length}
use Rattle.laws.specs.Rows.{unless_refused}
use Rattle.laws.specs.Octets.{AllOctets}
use Rattle.laws.proofs.Pick.{cases}
use Rattle.laws.proofs.Rows.{all_passed, first_up_to}
use Rattle.refusals.proofs.OnPaper.{value_given}
use Rattle.capture.specs.Capture.{capture_rows, capture_refusal, capture_in, records_of, DecodedCapture}
use Rattle.bench.specs.Text.{numbered_line}
use Rattle.bench.specs.Report.{refused_word, run_of, capture_report, report_of, part_report_of, report_rows, Reported}
use Rattle.bench.specs.declared.report.Wanted.{Wanted}
use Rattle.bench.specs.declared.report.Wanted.TheVariants.{All, Stretch}
use Rattle.std.specs.Prelude.{Option, Some, None, Ok}
use Rattle.bench.proofs.Captured.{records_short, records_octets}
use Rattle.bench.proofs.Size.{numbered_size, run_size}
use Rattle.bench.proofs.PartSize.{part_size}

run_fits : (wanted : Wanted) (records : List ℕ) → AllOctets records → length records ≤ 65528 → length (run_of wanted records) ≤ 163850
run_fits All records all short = run_size records all short
run_fits (Stretch from limit) records all short = part_size from limit records all short

module _ (wanted : Wanted) (octets : List ℕ) (all : AllOctets octets) where
  by_refusal : length octets ≤ 65536 → (n : ℕ) → capture_refusal octets ≡ n
      → length (unless_refused n (numbered_line refused_word n) (run_of wanted (records_of octets))) ≤ 163850
  by_refusal short zero e =
      let decoded : DecodedCapture octets (Ok (capture_in octets)) = record { answer = rw e } in
      run_fits wanted (records_of octets) (records_octets octets decoded all) (records_short octets decoded short)
  by_refusal short (suc n) e = omega (arith, numbered_size refused_word 1 (suc n) (omega (arith, first_up_to 14 (capture_rows octets) refl)))

  capture_fits : length octets ≤ 65536 → length (capture_report wanted octets) ≤ 163850
  unfolding capture_report
  capture_fits short = by_refusal short (capture_refusal octets) refl

  pub report_fits : length (report_of wanted octets) ≤ 163850
  unfolding report_of
  report_fits =
      cases (λ (text : List ℕ). length text ≤ 163850) (ltb 65536 (length octets)) (λ e. omega arith) (λ e. capture_fits (ltb-false 65536 (length octets) e))

pub part_fits : (from limit : Option ℕ) (octets : List ℕ) → AllOctets octets → length (part_report_of from limit octets) ≤ 163850
part_fits (Some from) (Some limit) octets all = report_fits (Stretch from limit) octets all
part_fits (Some from) None octets all = omega arith
part_fits None limit octets all = omega arith

pub told_within : {report before after : List ℕ} {size : ℕ} → Reported report before after (Ok size) → size ≤ length before
told_within {report} {before} {after} {size} told =
    let (free, same) = value_given (report_rows report before) told.answer in
    let (room, end) = all_passed (report_rows report before) refl free in
    omega (arith, ltb-false (length before) (length report) room)
