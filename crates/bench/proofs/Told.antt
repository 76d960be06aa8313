-- The lines of a part, by the words that were told: what is left after each, and how long they are.
-- Assumes nothing.
use Prim.Native.Nat.{ℕ, suc, ◌+◌, ◌-◌, ◌*◌, ◌<◌}
use mathlib.Core.Path.{◌≡◌}
use mathlib.Core.List.{List, [], ◌++◌}
use native.Mathlib.Omega.{arith}
use lib.ListN.{length, get_or, drop}
use lib.Seq.{drop-drop, get_or-drop}
use Rattle.bench.specs.Text.{decimal}
use Rattle.bench.specs.Line.{event_fields}
use Rattle.bench.specs.Told.{status_told_by, told_line, told_lines}
use Rattle.bench.proofs.Lines.{gap_size}

pub told_line_size : (number port refusal status gap : ℕ)
    → length (told_line number port refusal status gap) ≡ length (event_fields number port refusal (status_told_by status)) + 1 + length (decimal gap) + 1
unfolding told_line
told_line_size number port refusal status gap = gap_size (event_fields number port refusal (status_told_by status)) gap

-- what is left to write once i of count lines are done
abbrev pub told_left : List ℕ → ℕ → ℕ → List ℕ → List ℕ → ℕ → List ℕ
told_left records from count answers gaps i = told_lines (from + i + 1) (count - i) (drop (8 * (from + i)) records) (drop (13 * i) answers) (drop i gaps)

module _ (records : List ℕ) (from count : ℕ) (answers gaps : List ℕ) where
  pub told_all : told_lines (from + 1) count (drop (8 * from) records) answers gaps ≡ told_left records from count answers gaps 0
  told_all =
      let all : count - 0 ≡ count = omega arith in
      let first : from + 0 ≡ from = omega arith in
      rw (all, first)

  pub told_next : (i : ℕ) → i < count
      → told_left records from count answers gaps i
      ≡ told_line (from + (i + 1)) (get_or records (8 * (from + i) + 2) 0) (get_or answers (13 * i) 0) (get_or answers (13 * i + 1) 0) (get_or gaps i 0)
      ++ told_left records from count answers gaps (i + 1)
  unfolding told_lines
  told_next i h =
      let more : count - i ≡ suc (count - (i + 1)) = omega arith in
      let number : from + i + 1 ≡ from + (i + 1) = omega arith in
      let record_behind : 8 * (from + i) + 8 ≡ 8 * (from + (i + 1)) = omega arith in
      let answer_behind : 13 * i + 13 ≡ 13 * (i + 1) = omega arith in
      let word : 13 * i + 0 ≡ 13 * i = omega arith in
      let here : i + 0 ≡ i = omega arith in
      rw (more, get_or-drop (8 * (from + i)) records 2 0, get_or-drop (13 * i) answers 0 0, get_or-drop (13 * i) answers 1 0, get_or-drop i gaps 0 0, drop-drop 8 (8 * (from + i)) records, drop-drop 13 (13 * i) answers, drop-drop 1 i gaps, number, record_behind, answer_behind, word, here)

  pub told_none : (i : ℕ) → i ≡ count → told_left records from count answers gaps i ≡ []
  unfolding told_lines
  told_none i e = let done : count - i ≡ 0 = omega arith in rw done
