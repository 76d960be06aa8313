-- What the private functions on a state's words ask of them, and what they do to them. No public call asks anything.
use Rattle.std.specs.Prelude.{◌≡◌, ℕ, ◌≤◌, Bool, false, List, length, ◌==◌}
use Rattle.laws.specs.Pick.{pick}
use Rattle.drive.specs.State.{pending_on, Result}
use Rattle.drive.specs.Request.{octet2_cleared}
use Rattle.drive.specs.Refusal.{row11}
use Rattle.drive.specs.Able.{Passable}
use Rattle.drive.specs.declared.answer.Answer.{Answer}
use Rattle.drive.specs.declared.answer.Outcome.{Outcome}
use Rattle.events.specs.State.{drive_in, moved_to}

-- The words of a state that row 11 lets pass.
pub record Fit (state : List ℕ) : Type 0 where
  pub long : 23 ≤ length state
  pub sound : row11 (drive_in state) ≡ false

-- And row 10 does.
pub record Fits (state sectors staging : List ℕ) : Type 0 where
  pub long : 23 ≤ length state
  pub passable : Passable (drive_in state) sectors staging

-- A function on the words answers so, and they are those of the drive after.
pub record Did (state₀ : List ℕ) (o : Outcome) (r : Answer) (state₁ : List ℕ) : Type 0 where
  pub answer : r ≡ o.answer
  pub state : state₁ ≡ moved_to state₀ o.drive

-- The same of a kind that touches the lent words.
pub record DidIn (state₀ : List ℕ) (x : Result) (r : Answer) (state₁ sectors₁ staging₁ : List ℕ) : Type 0 where
  pub answer : r ≡ x.outcome.answer
  pub state : state₁ ≡ moved_to state₀ x.outcome.drive
  pub sectors : sectors₁ ≡ x.sectors
  pub staging : staging₁ ≡ x.staging

-- Whether a request goes on, by octet 1 of its port; and the words, with octet 2 cleared if it does.
pub record TakenUp (state₀ : List ℕ) (port : ℕ) (r : Bool) (state₁ : List ℕ) : Type 0 where
  pub heard : r ≡ ((pending_on (drive_in state₀) port).octet1 == 0)
  pub state : state₁ ≡ pick r (moved_to state₀ (octet2_cleared (drive_in state₀) port)) state₀
