-- Runs: how they go on, what they leave, and what holds of every event of a run from a start: it is said once of any events and one event behind them.
-- Assumes nothing.
use mathlib.Core.Path.{◌≡◌, refl, ap, ◌∙◌}
use mathlib.Core.List.{List, [], ◌∷◌, ◌++◌}
use Rattle.parts.specs.declared.event.Event.{Event}
use Rattle.drive.specs.Run.{Machine, answer_to, after, answers, final}
use Rattle.drive.specs.StaysSound.{IsSound, SameSize}
use Rattle.drive.specs.Along.{Saying, HoldsBehind, HoldsAlong}
use Rattle.drive.proofs.StaysSound.{same_size_lem, sound_after}

pub final_goes_on : (m : Machine) (events stretch : List Event) → final m (events ++ stretch) ≡ final (final m events) stretch
unfolding final
final_goes_on m [] stretch = refl
final_goes_on m (e ∷ events) stretch = final_goes_on (after m e) events stretch

pub answers_go_on : (m : Machine) (events stretch : List Event) → answers m (events ++ stretch) ≡ answers m events ++ answers (final m events) stretch
unfolding answers final
answers_go_on m [] stretch = refl
answers_go_on m (e ∷ events) stretch = ap (λ told. answer_to m e ∷ told) (answers_go_on (after m e) events stretch)

pub same_size_along : (m : Machine) (events : List Event) → SameSize m (final m events)
unfolding final
same_size_along m [] = record { setup = refl; sectors = refl; staging = refl }
same_size_along m (e ∷ events) =
    let now = same_size_lem m e in
    let later = same_size_along (after m e) events in
    record { setup = later.setup ∙ now.setup; sectors = later.sectors ∙ now.sectors; staging = later.staging ∙ now.staging }

pub sound_along : (m : Machine) (events : List Event) → IsSound m → IsSound (final m events)
unfolding final
sound_along m [] s = s
sound_along m (e ∷ events) s = sound_along (after m e) events (sound_after m e s)

module _ (P : Saying) (start : Machine) (each : (before : List Event) (e : Event) → P before (answers start before) e (answer_to (final start before) e)) where
  behind : (before events : List Event) → HoldsBehind P before (answers start before) events (answers (final start before) events)
  unfolding answers final
  behind before [] = tt
  behind before (e ∷ events) =
      (each before e, rw (← (answers_go_on start before (e ∷ [])), ← (final_goes_on start before (e ∷ []))) (behind (before ++ (e ∷ [])) events))

  pub along : (events : List Event) → HoldsAlong P events (answers start events)
  unfolding answers final
  along events = behind [] events
