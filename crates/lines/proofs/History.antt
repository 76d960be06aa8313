-- The follower's mark is as good as the whole way: after each setting it is what the way says, so the answers are the same.
-- Assumes nothing.
use Prim.Native.Nat.{ℕ}
use mathlib.Core.Path.{◌≡◌, refl, ap, ◌∙◌}
use mathlib.Core.Bool.{Bool, true, false, not, ◌&&◌, ◌||◌, and-true, and-false, or-false}
use mathlib.Core.List.{List, [], ◌∷◌}
use borrow.Author.Tests.{eqb-true}
use lib.Dec.{eqb, ltb}
use Rattle.laws.specs.Pick.{pick}
use Rattle.laws.proofs.Pick.{pick_map, pick_not}
use Rattle.lines.specs.Moves.{entry_of, said_by}
use Rattle.lines.specs.Follower.{is_reached, ◌with-history◌, idle, lost, told, lacks_history, remembers, undefined_at, while_lost, moved_by, moved, step_of}
use Rattle.lines.specs.Traces.{answers, Way, came_to, astray, Watched, came_from, has_history, saw_undefined, saw_move, saw_setting, watch, watched_answers, HistoryKept}
use Rattle.lines.specs.declared.moves.Move.{Move}
use Rattle.lines.specs.declared.follower.Follower.{Follower}
use Rattle.lines.specs.declared.follower.Followed.{Followed}
use Rattle.lines.specs.declared.follower.Answer.TheVariants.{Undefined, Controllers, Drives}
use Rattle.lines.proofs.Step.{step_reached}
use Rattle.lines.proofs.Reached.{step_stays, idle_reached}

-- the mark that a way deserves
marked : ℕ → List ℕ → Bool
marked setting earlier =
    pick (eqb setting 16) (came_from (0 ∷ []) earlier)
    (pick (eqb setting 26) (came_from (27 ∷ []) earlier) (pick (eqb setting 24) (came_from (26 ∷ 27 ∷ []) earlier) false))

abbrev follower_on : Way → Follower
follower_on (came_to setting earlier) = setting with-history marked setting earlier
follower_on astray = lost

abbrev followed : Watched → Followed
followed w = record { answer = w.answer; follower = follower_on w.way }

-- ---- the two rules, by the mark and by the way

needed : (mark needs : Bool) → (not mark && needs) ≡ not (pick needs mark true)
unfolding pick
needed mark true = and-true (not mark)
needed mark false = and-false (not mark)

lacks_is : (old : ℕ) (earlier : List ℕ) (new : ℕ) → lacks_history (old with-history marked old earlier) new ≡ not (has_history old earlier new)
unfolding lacks_history has_history marked pick
lacks_is old earlier new = by_setting (eqb old 24) refl (eqb old 16) refl
  where
    by_setting : (slavack : Bool) → eqb old 24 ≡ slavack → (select : Bool) → eqb old 16 ≡ select
        → lacks_history (old with-history marked old earlier) new ≡ not (has_history old earlier new)
    by_setting true p select q = rw (eqb-true old 24 p, or-false) (needed (came_from (26 ∷ 27 ∷ []) earlier) (eqb new 28))
    by_setting false p true q = rw (eqb-true old 16 q) (needed (came_from (0 ∷ []) earlier) (eqb new 0))
    by_setting false p false q = rw (p, q) (simp and-false)

-- SLAVACK from MASTEND: the mark of MASTEND is that it came from BUSACK
from_mastend : (old : ℕ) (earlier : List ℕ) → (eqb old 26 && marked old earlier) ≡ (eqb old 26 && came_from (27 ∷ []) earlier)
unfolding marked pick
from_mastend old earlier = by_setting (eqb old 26) refl
  where
    by_setting : (mastend : Bool) → eqb old 26 ≡ mastend → (eqb old 26 && marked old earlier) ≡ (eqb old 26 && came_from (27 ∷ []) earlier)
    by_setting true p = rw (eqb-true old 26 p)
    by_setting false p = rw p

remembers_is : (old : ℕ) (earlier : List ℕ) (new : ℕ) → remembers (old with-history marked old earlier) new ≡ new with-history marked new (old ∷ earlier)
unfolding remembers marked pick
remembers_is old earlier new = ap (λ (h : Bool). new with-history h) (by_setting (eqb new 16) refl (eqb new 26) refl (eqb new 24) refl)
  where
    by_setting : (select : Bool) → eqb new 16 ≡ select → (mastend : Bool) → eqb new 26 ≡ mastend → (slavack : Bool) → eqb new 24 ≡ slavack
        → (eqb old 0 && eqb new 16 || eqb old 27 && eqb new 26 || eqb old 26 && eqb new 24 && marked old earlier) ≡ marked new (old ∷ earlier)
    by_setting true p mastend q slavack r = rw (eqb-true new 16 p) (simp (and-true, and-false, or-false))
    by_setting false p true q slavack r = rw (eqb-true new 26 q) (simp (and-true, and-false, or-false))
    by_setting false p false q true r = rw (eqb-true new 24 r) (simp (and-true, and-false) (from_mastend old earlier))
    by_setting false p false q false r = rw (p, q, r) (simp (and-false, or-false))

-- ---- a setting

undefined_is : (new : ℕ) → undefined_at new ≡ followed (saw_undefined new)
unfolding undefined_at saw_undefined marked pick
undefined_is new = by_zero (eqb new 0)
  where
    by_zero : (zero : Bool) → told Undefined (pick zero idle lost) ≡ told Undefined (follower_on (pick zero (came_to 0 []) astray))
    by_zero true = refl
    by_zero false = refl

move_is : (move : Move) (old : ℕ) (earlier : List ℕ) (new : ℕ) → moved_by move (old with-history marked old earlier) new ≡ followed (saw_move move old earlier new)
unfolding moved_by saw_move
move_is Move.Same old earlier new = refl
move_is Move.Controllers old earlier new =
    rw (lacks_is old earlier new, pick_not)
    (pick_map followed (has_history old earlier new) (ap (told Controllers) (remembers_is old earlier new)) (undefined_is new))
move_is Move.Drives old earlier new = ap (told Drives) (remembers_is old earlier new)
move_is Move.Undefined old earlier new = undefined_is new

-- ---- a trace

taken_is : (way : Way) (new : ℕ) → pick (follower_on way).lost (while_lost new) (moved (follower_on way) new) ≡ followed (saw_setting way new)
unfolding pick while_lost marked
taken_is (came_to old earlier) new = move_is (said_by (entry_of old new)) old earlier new
taken_is astray new = pick_map followed (eqb new 0) refl refl

watch_is : (way : Way) (new : ℕ) → is_reached (follower_on way) ≡ true → step_of (follower_on way) new ≡ followed (watch way new)
unfolding watch
watch_is way new e = step_reached (follower_on way) new e ∙ pick_map followed (ltb 31 new) refl (taken_is way new)

answers_are : (way : Way) (trace : List ℕ) → is_reached (follower_on way) ≡ true → answers (follower_on way) trace ≡ watched_answers way trace
unfolding answers watched_answers
answers_are way [] e = refl
answers_are way (new ∷ trace) e =
    let w = watch_is way new e in
    let after' = rw w at (step_stays (follower_on way) new e) in
    rw w (ap (λ l. (watch way new).answer ∷ l) (answers_are (watch way new).way trace after'))

pub history_kept : HistoryKept
unfolding marked pick
history_kept = record { same_answers = λ trace. answers_are (came_to 0 []) trace idle_reached }
