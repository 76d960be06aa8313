-- `each` meets its contract.
-- Assumes nothing.
use Rattle.std.proofs.Common.{◌≡◌, ℕ, Bool, List, length}
use Rattle.events.proofs.Batches.{Going}
use Rattle.events.proofs.batch.each.Given as goal

-- so many events are answered
pub record Gone (telling : Bool) (count : ℕ) (records state₀ sectors₀ staging₀ out₀ state sectors staging out : List ℕ) (i : ℕ) : Type 0 where
  pub same_state : length state ≡ length state₀
  pub same_sectors : length sectors ≡ length sectors₀
  pub same_staging : length staging ≡ length staging₀
  pub same_out : length out ≡ length out₀
  pub going : Going telling count records state₀ sectors₀ staging₀ out₀ state sectors staging out i

abbrev pub invariant-loop-i : goal.invariant-loop-i
invariant-loop-i l = Gone l.telling l.count l.records l.initial.state l.initial.sectors l.initial.staging l.initial.out l.state l.sectors l.staging l.out l.i
