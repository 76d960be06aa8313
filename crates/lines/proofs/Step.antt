-- What a step does, by the rows that hold: the laws through which everything else speaks of `step_of`.
-- Assumes nothing.
use Prim.Native.Nat.{ℕ}
use mathlib.Core.Path.{◌≡◌, refl, ap, ◌∙◌}
use mathlib.Core.Bool.{Bool, true, false}
use lib.Dec.{ltb}
use Rattle.laws.specs.Pick.{pick}
use Rattle.laws.specs.Rows.{unless_refused, refused_or}
use Rattle.refusals.specs.Refusal.{named, on_paper}
use Rattle.refusals.proofs.OnPaper.{seen_by_name}
use Rattle.lines.specs.Follower.{is_reached, refused, while_lost, moved, said, step_rows, step_of, Stepped}
use Rattle.lines.proofs.Said.{step_said}
use Rattle.lines.specs.declared.follower.Follower.{Follower}
use Rattle.lines.specs.declared.follower.Followed.{Followed}

pub unreached_refused : (f : Follower) (new : ℕ) → is_reached f ≡ false → step_of f new ≡ refused (named 11) f
unfolding step_of pick
unreached_refused f new e = rw e

pub step_reached : (f : Follower) (new : ℕ) → is_reached f ≡ true
    → step_of f new ≡ pick (ltb 31 new) (refused (named 8) f) (pick f.lost (while_lost new) (moved f new))
unfolding step_of pick
step_reached f new e = rw e (by_setting (ltb 31 new))
  where
    by_setting : (over : Bool) → unless_refused (pick over 8 0) (refused (named (pick over 8 0)) f) (pick f.lost (while_lost new) (moved f new))
        ≡ pick over (refused (named 8) f) (pick f.lost (while_lost new) (moved f new))
    by_setting true = refl
    by_setting false = refl

step_on_paper : (f : Follower) (new : ℕ) → on_paper (step_of f new).answer ≡ refused_or (step_rows f new) (said f new)
unfolding step_of
step_on_paper f new = seen_by_name (λ (d : Followed). d.answer) (λ refusal. refused refusal f) _ (said f new) (step_rows f new) (refl, (refl, tt)) (λ refusal. refl) (step_said f new)

pub stepped : {f : Follower} {new : ℕ} {r : Followed} → r ≡ step_of f new → Stepped f new r
stepped {f} {new} {r} e =
    record {
      answer = ap (λ (d : Followed). d.answer) e;
      on_paper = ap (λ (d : Followed). on_paper d.answer) e ∙ step_on_paper f new;
      follower = ap (λ (d : Followed). d.follower) e;
    }
