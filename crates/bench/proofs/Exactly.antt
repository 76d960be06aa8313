-- Refusal 10 of `replay`, and of `replay_part`, is given exactly when its row holds.
-- Assumes nothing.
use Prim.Native.Nat.{ℕ, suc}
use mathlib.Core.Path.{◌≡◌}
use mathlib.Core.List.{List}
use mathlib.Core.Logic.{◌↔◌}
use Rattle.std.specs.Prelude.{Result}
use Rattle.laws.specs.Rows.{Given}
use Rattle.refusals.specs.Refusal.{refusal_in}
use Rattle.refusals.specs.declared.refusal.Refusal.{Refusal}
use Rattle.refusals.proofs.OnPaper.{exactly_on_paper}
use Rattle.bench.specs.Report.{report_rows, Reported}

pub replay_exactly : (n : ℕ) (report before after : List ℕ) (r : Result ℕ Refusal) → Reported report before after r
    → refusal_in r ≡ suc n ↔ Given (suc n) (report_rows report before)
replay_exactly n report before after r e = exactly_on_paper (report_rows report before) _ r e.answer n
