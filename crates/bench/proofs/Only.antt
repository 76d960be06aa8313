-- No second answer: two outcomes that satisfy what `replay`, or `replay_part`, promises are equal, the answer and all octets of the slice.
-- Assumes nothing.
use mathlib.Core.Path.{◌≡◌}
use mathlib.Core.List.{List}
use Prim.Native.Nat.{ℕ}
use Rattle.std.specs.Prelude.{Result}
use Rattle.laws.proofs.Only as laws
use Rattle.refusals.specs.declared.refusal.Refusal.{Refusal}
use Rattle.refusals.proofs.OnPaper.{answer_only}
use Rattle.bench.specs.Report.{Reported}

pub replay_only : (report before after after' : List ℕ) (r s : Result ℕ Refusal) → Reported report before after r → Reported report before after' s → (r ≡ s) × (after ≡ after')
replay_only report before after after' r s p q = (answer_only p.answer q.answer, laws.answer_only p.slice q.slice)
