-- What is said of every event of a run, beside the events and the answers before it.
use Rattle.std.specs.Prelude.{List, [], ◌∷◌, ◌++◌}
use Rattle.parts.specs.declared.event.Event.{Event}
use Rattle.drive.specs.declared.answer.Answer.{Answer}

-- The events and answers before, the event, its answer.
abbrev pub Saying : Type 1
Saying = List Event → List Answer → Event → Answer → Type 0

-- It holds of each of these, which came behind those.
abbrev pub HoldsBehind : Saying → List Event → List Answer → List Event → List Answer → Type 0
HoldsBehind P before told [] later = Unit
HoldsBehind P before told (e ∷ events) [] = Unit
HoldsBehind P before told (e ∷ events) (answer ∷ later) = P before told e answer × HoldsBehind P (before ++ (e ∷ [])) (told ++ (answer ∷ [])) events later

-- It holds of every event of a run and its answer.
abbrev pub HoldsAlong : Saying → List Event → List Answer → Type 0
HoldsAlong P events told = HoldsBehind P [] [] events told
