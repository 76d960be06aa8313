-- `released` meets its contract.
-- Assumes nothing.
use Rattle.parts.specs.Holding.{released}
use mathlib.Core.Path.{refl}
use mathlib.Core.Logic.{inl, inr}
use Rattle.parts.proofs.OnPaper.{holding_said}
use Rattle.parts.proofs.holding.Holding.released.Goals as goal

pub returns-in-None : goal.returns-in-None
unfolding released
returns-in-None c = rw c.in-None.is c.no_holding.ensures

pub returns-in-Plain : goal.returns-in-Plain
unfolding released
returns-in-Plain c = elim c.in-Plain.is [ inl plain ↦ rw plain (holding_said refl refl) | inr strong ↦ rw strong (holding_said refl refl) ]
