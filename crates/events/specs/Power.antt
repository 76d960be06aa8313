-- `power_up_words`: power-up on the words of a state.
use Rattle.std.specs.Prelude.{◌≡◌, ℕ, not, List, [], ◌∷◌, length, nat_lt}
use Rattle.laws.specs.Rows.{Row, first, ◌when◌, unless_refused}
use Rattle.laws.specs.Lists.{written_over}
use Rattle.parts.specs.Setup.{within_limits}
use Rattle.parts.specs.declared.setup.Setup.{Setup}
use Rattle.drive.specs.Refusal.{row10}
use Rattle.drive.specs.Power.{at_rest}
use Rattle.events.specs.State.{state_words}

-- "Power-up tests 9, then 10": a slice too short is the sectors', the staging's or the state's.
abbrev pub power_up_rows : Setup → List ℕ → List ℕ → List ℕ → List Row
power_up_rows s sectors staging state =
    9 when not (within_limits s) ∷ 10 when row10 s sectors staging ∷ 10 when nat_lt (length state) 23 ∷ []

abbrev pub power_up_refusal : Setup → List ℕ → List ℕ → List ℕ → ℕ
power_up_refusal s sectors staging state = first (power_up_rows s sectors staging state)

-- The promise of `power_up_words`. The other two slices are lent for reading only.
pub record PoweredUpOnWords (s : Setup) (sectors staging state₀ : List ℕ) (r : ℕ) (state₁ : List ℕ) : Type 0 where
  pub answer : r ≡ power_up_refusal s sectors staging state₀
  pub state : state₁ ≡ unless_refused (power_up_refusal s sectors staging state₀) state₀ (written_over state₀ (state_words (at_rest s)))
