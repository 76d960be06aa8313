-- `copy` meets its contract: after k words, those before k are in their places.
-- Assumes nothing.
use Rattle.std.proofs.Common.{◌≡◌, ℕ, ◌≤◌, List, length}
use Rattle.events.proofs.Committing.{Committing}
use Rattle.events.proofs.transfer.copy.Given as goal

-- so many words are in their places
pub record Copied (start first header fields count : ℕ) (staging sectors₀ sectors : List ℕ) (k at : ℕ) : Type 0 where
  pub from : first ≤ k
  pub to : k ≤ count
  pub same : length sectors ≡ length sectors₀
  pub copied : Committing sectors₀ staging start first header fields k at sectors

abbrev pub invariant-loop-k : goal.invariant-loop-k
invariant-loop-k l = Copied l.start l.first l.header l.fields_at l.count l.staging l.initial.sectors l.sectors l.k l.at
