-- The bench drive: it powers up, and no event that a run gives it is refused with 11 or 10.
-- Assumes nothing.
use mathlib.Core.Path.{◌≡◌, refl}
use mathlib.Core.Bool.{true, false}
use mathlib.Core.List.{List}
use lib.ListN.{replicate}
use Rattle.std.specs.Prelude.{Result, Ok}
use Rattle.refusals.specs.declared.refusal.Refusal.{Refusal}
use Rattle.parts.specs.Setup.{within_limits, all_words}
use Rattle.parts.specs.declared.event.Event.{Event}
use Rattle.drive.specs.Refusal.{row10}
use Rattle.drive.specs.Power.{at_rest, PoweredUp}
use Rattle.drive.specs.Run.{answers, final}
use Rattle.drive.specs.Cases.{bench}
use Rattle.drive.specs.StaysSound.{Never11Or10}
use Rattle.drive.specs.declared.drive.Drive.{Drive}
use Rattle.drive.proofs.Only.{power_up_only}
use Rattle.drive.proofs.Calls.{demand_3_of_calls}
use Rattle.drive.proofs.StaysSound.{stays_sound}
use Rattle.drive.proofs.Along.{sound_along}
use Rattle.bench.specs.Run.{bench_at_rest}

within_limits_lem : within_limits bench ≡ true
unfolding within_limits
within_limits_lem = refl

has_room : row10 bench (replicate 48 0) (replicate 4 0) ≡ false
unfolding row10 all_words
has_room = refl

pub bench_is_up : {r : Result Drive Refusal} → PoweredUp bench (replicate 48 0) (replicate 4 0) r → r ≡ Ok (at_rest bench)
bench_is_up p = power_up_only p (demand_3_of_calls.powered bench (replicate 48 0) (replicate 4 0) within_limits_lem has_room)

pub bench_answers : (before events : List Event) → Never11Or10 (answers (final bench_at_rest before) events)
bench_answers before events =
    stays_sound.never_11_or_10 (final bench_at_rest before) events
    (sound_along bench_at_rest before (stays_sound.at_rest bench (replicate 48 0) (replicate 4 0) within_limits_lem has_room))
