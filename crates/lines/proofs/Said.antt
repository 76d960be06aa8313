-- What a step says, by what the table has of the pair of settings.
-- Assumes nothing.
use Rattle.std.proofs.Common.{ℕ, ◌≡◌, refl, Bool, true, false}
use Rattle.std.specs.Prelude.{Ok, eqb}
use Rattle.laws.specs.Pick.{pick}
use Rattle.lines.specs.Moves.{entry_of, said_by}
use Rattle.lines.specs.Follower.{idle, lost, told, lacks_history, remembers, undefined_at, while_lost, moved_by, moved, said_of, said}
use Rattle.lines.specs.declared.moves.Move.{Move}
use Rattle.lines.specs.declared.follower.Follower.{Follower}
use Rattle.lines.specs.declared.follower.Answer.TheVariants.{Undefined, Controllers, Lost, Idle}

lost_said : (zero : Bool) → (pick zero (told Idle idle) (told Lost lost)).answer ≡ Ok (pick zero Idle Lost)
unfolding pick
lost_said true = refl
lost_said false = refl

controllers_said : (lacks : Bool) (f : Follower) (new : ℕ)
    → (pick lacks (undefined_at new) (told Controllers (remembers f new))).answer ≡ Ok (pick lacks Undefined Controllers)
unfolding pick undefined_at
controllers_said true f new = refl
controllers_said false f new = refl

moved_said : (move : Move) (f : Follower) (new : ℕ) → (moved_by move f new).answer ≡ Ok (said_of move (lacks_history f new))
unfolding moved_by undefined_at
moved_said Move.Same f new = refl
moved_said Move.Controllers f new = controllers_said (lacks_history f new) f new
moved_said Move.Drives f new = refl
moved_said Move.Undefined f new = refl

pub step_said : (f : Follower) (new : ℕ) → (pick f.lost (while_lost new) (moved f new)).answer ≡ Ok (said f new)
unfolding said while_lost pick
step_said f new = by_lost f.lost
  where
    by_lost : (gone : Bool) → (pick gone (while_lost new) (moved f new)).answer
        ≡ Ok (pick gone (pick (eqb new 0) Idle Lost) (said_of (said_by (entry_of f.setting new)) (lacks_history f new)))
    by_lost true = lost_said (eqb new 0)
    by_lost false = moved_said (said_by (entry_of f.setting new)) f new
