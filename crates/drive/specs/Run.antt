-- Runs: events one after another, each on what the last one left. The machine is the drive with its lent words.
use Rattle.std.specs.Prelude.{List, [], ◌∷◌, ℕ}
use Rattle.drive.specs.Event.{handled}
use Rattle.drive.specs.declared.drive.Drive.{Drive}
use Rattle.parts.specs.declared.event.Event.{Event}
use Rattle.drive.specs.declared.answer.Answer.{Answer}

pub record Machine : Type 0 where
  pub drive : Drive
  pub sectors : List ℕ
  pub staging : List ℕ

abbrev pub machine : Drive → List ℕ → List ℕ → Machine
machine d sectors staging = record { drive = d; sectors = sectors; staging = staging }

unfoldable pub answer_to : Machine → Event → Answer
answer_to m e = (handled m.drive e m.sectors m.staging).outcome.answer

unfoldable pub after : Machine → Event → Machine
after m e =
    let r = handled m.drive e m.sectors m.staging in
    machine r.outcome.drive r.sectors r.staging

unfoldable pub answers : Machine → List Event → List Answer
answers m [] = []
answers m (e ∷ es) = answer_to m e ∷ answers (after m e) es

unfoldable pub final : Machine → List Event → Machine
final m [] = m
final m (e ∷ es) = final (after m e) es
