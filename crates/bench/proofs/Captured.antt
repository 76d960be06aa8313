-- What the report of a capture is, by the answer of its decoding, and what its records are.
-- Assumes nothing.
use Prim.Native.Nat.{ℕ, ◌-◌, ◌%◌, ◌≤◌}
use mathlib.Core.Path.{◌≡◌, ap, ◌∙◌}
use mathlib.Core.List.{List}
use native.Mathlib.Omega.{arith}
use borrow.Author.Tests.{le-ltb}
use lib.ListN.{length, drop, length-drop}
use lib.Seq.{length-take-le}
use Rattle.laws.specs.Pick.{pick}
use Rattle.laws.specs.Octets.{AllOctets}
use Rattle.laws.proofs.Octets.{octets_taken, octets_dropped}
use Rattle.capture.specs.Capture.{capture_rows, distance_of, records_of, capture_in, DecodedCapture}
use Rattle.capture.specs.declared.capture.Capture.{Capture}
use Rattle.std.specs.Prelude.{Ok, Err}
use Rattle.refusals.specs.Refusal.{number}
use Rattle.refusals.specs.declared.refusal.Refusal.{Refusal}
use Rattle.refusals.proofs.OnPaper.{refusal_given, left_as_it_was}
use Rattle.capture.proofs.Decoding.{whole, whole_parts}
use Rattle.bench.specs.Text.{numbered_line}
use Rattle.bench.specs.Report.{refused_word, run_of, capture_report, report_of}
use Rattle.bench.specs.declared.report.Wanted.{Wanted}

module _ (wanted : Wanted) (octets : List ℕ) (fits : length octets ≤ 65536) where
  report_is : report_of wanted octets ≡ capture_report wanted octets
  unfolding report_of pick
  report_is = rw (le-ltb 65536 (length octets) fits)

  pub report_refused : {refusal : Refusal} → DecodedCapture octets (Err refusal) → report_of wanted octets ≡ numbered_line refused_word (number refusal)
  unfolding capture_report
  report_refused {refusal} d =
      let refused = refusal_given (capture_rows octets) refusal (capture_in octets) d.answer in
      report_is ∙ left_as_it_was refusal _ refused ∙ ap (numbered_line refused_word) refused

  module _ {found : Capture} (d : DecodedCapture octets (Ok found)) where
    pub report_run : report_of wanted octets ≡ run_of wanted (records_of octets)
    unfolding capture_report
    report_run = report_is ∙ rw (whole d).unrefused

module _ (octets : List ℕ) {found : Capture} (d : DecodedCapture octets (Ok found)) where
  records_size : length (records_of octets) ≡ length octets - 8 - found.first
  records_size =
      let size = length octets - 8 - found.first in
      rw ((whole_parts (whole d)).1, length-take-le size (drop found.first octets) (simp length-drop (omega arith)))

  pub records_short : length octets ≤ 65536 → length (records_of octets) ≤ 65528
  records_short fits = rw records_size (omega arith)

  pub records_whole : length (records_of octets) % 8 ≡ 0
  records_whole =
      let w = whole d in
      let distance : length octets - 8 - found.first ≡ distance_of octets = omega (arith, w.within, w.starts) in
      rw (records_size, distance) w.even

  pub records_octets : AllOctets octets → AllOctets (records_of octets)
  records_octets all = rw (whole_parts (whole d)).1 (octets_taken (length octets - 8 - found.first) (drop found.first octets) (octets_dropped found.first octets all))
