-- Power-up: refusals 9, then 10, or the drive at rest.
use Rattle.std.specs.Prelude.{ℕ, ◌≡◌, not, List, [], ◌∷◌, Result}
use Rattle.laws.specs.Rows.{Row, ◌when◌, refused_or}
use Rattle.refusals.specs.Refusal.{on_paper}
use Rattle.refusals.specs.declared.refusal.Refusal.{Refusal}
use Rattle.parts.specs.Setup.{within_limits, no_target}
use Rattle.parts.specs.Holding.{free}
use Rattle.parts.specs.Pending.{nothing_pending}
use Rattle.drive.specs.State.{at_place}
use Rattle.parts.specs.Tests.{no_transfer}
use Rattle.drive.specs.Refusal.{row10}
use Rattle.parts.specs.declared.setup.Setup.{Setup}
use Rattle.drive.specs.declared.drive.Drive.{Drive}

-- "Power-up: nobody selected, no hold, position 0/0/0, target FFFF hex .., nothing pending; the lent words stay as found."
abbrev pub at_rest : Setup → Drive
at_rest s =
    record {
      setup = s;
      holding = free;
      place = at_place 0 0 0;
      target = no_target;
      transfer = no_transfer;
      pending0 = nothing_pending;
      pending1 = nothing_pending;
    }

-- "Power-up tests 9, then 10, and a refused power-up hands back no drive." 9: "a number outside its limits".
abbrev pub power_up_rows : Setup → List ℕ → List ℕ → List Row
power_up_rows s sectors staging = 9 when not (within_limits s) ∷ 10 when row10 s sectors staging ∷ []

abbrev pub setup_of : ℕ → ℕ → ℕ → ℕ → ℕ → ℕ → ℕ → Setup
setup_of cylinders heads sectors header field1 field2 address =
    record { cylinders = cylinders; heads = heads; sectors = sectors; header = header; field1 = field1; field2 = field2; address = address }

-- The promise of `power_up`: "A refusal reports its number and nothing else", "a refused power-up hands back no drive." Both slices are lent for reading only.
pub record PoweredUp (s : Setup) (sectors staging : List ℕ) (r : Result Drive Refusal) : Type 0 where
  pub answer : on_paper r ≡ refused_or (power_up_rows s sectors staging) (at_rest s)
