-- `refuse_all` meets its contract.
-- Assumes nothing.
use Rattle.std.proofs.Common.{◌≡◌, length}
use Rattle.events.proofs.Batches.{Refusing}
use Rattle.events.proofs.batch.refuse_all.Given as goal

abbrev pub invariant-loop-i : goal.invariant-loop-i
invariant-loop-i l = (length l.out ≡ length l.initial.out) × Refusing l.refusal l.initial.out l.out l.i
