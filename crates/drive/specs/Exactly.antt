-- Demand 2: "Each refusal is given exactly when its rule says so." One statement for every number of an event and of a power-up.
use Rattle.std.specs.Prelude.{ℕ, suc, List, ◌↔◌, ◌≡◌, Result}
use Rattle.laws.specs.Rows.{Given}
use Rattle.parts.specs.Kind.{kind_of}
use Rattle.parts.specs.declared.setup.Setup.{Setup}
use Rattle.parts.specs.declared.event.Event.{Event}
use Rattle.drive.specs.Answer.{refusal_in}
use Rattle.drive.specs.Refusal.{rows}
use Rattle.drive.specs.Event.{Handled}
use Rattle.drive.specs.Power.{power_up_rows, PoweredUp}
use Rattle.refusals.specs.Refusal as refusal
use Rattle.refusals.specs.declared.refusal.Refusal.{Refusal}
use Rattle.drive.specs.declared.drive.Drive.{Drive}
use Rattle.drive.specs.declared.answer.Outcome.{Outcome}

-- Whatever meets the promise refuses with number n if and only if row n holds and no row tested earlier does.
pub record Exactly : Type 0 where
  pub event : (d : Drive) (e : Event) (sectors staging : List ℕ) (r : Outcome) (sectors' staging' : List ℕ) → Handled d e sectors staging r sectors' staging'
      → (n : ℕ) → refusal_in r.answer ≡ suc n ↔ Given (suc n) (rows (kind_of e.kind) d e sectors staging)
  pub power_up : (s : Setup) (sectors staging : List ℕ) (r : Result Drive Refusal) → PoweredUp s sectors staging r
      → (n : ℕ) → refusal.refusal_in r ≡ suc n ↔ Given (suc n) (power_up_rows s sectors staging)
