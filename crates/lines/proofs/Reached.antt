-- The follower states that `is_reached` names: their settings are below 32; no step leaves them; each has a trace.
-- Assumes nothing.
use Prim.Native.Nat.{ℕ, ◌<◌}
use mathlib.Core.Path.{◌≡◌, refl, ap, ◌∙◌}
use mathlib.Core.Bool.{Bool, true, false, not, false≢true}
use mathlib.Core.List.{List, [], ◌∷◌, ◌++◌}
use native.Mathlib.Omega.{arith}
use borrow.Author.Tests.{eqb-true, ltb-true, ltb-false}
use lib.Dec.{eqb, ltb}
use Rattle.laws.specs.Pick.{pick}
use Rattle.laws.specs.Lists.{one_of}
use Rattle.laws.proofs.Tests.{and_l, and_r}
use Rattle.laws.proofs.Lists.{every_one_of, every, every_below_lem, every_below, Each, each_one_of}
use Rattle.lines.specs.Moves.{entry_of, said_by}
use Rattle.lines.specs.Follower.{is_reached, seen_settings, settings_with_history, ◌with-history◌, moved, moved_by, lacks_history, remembers, undefined_at, idle, lost, told, refused, while_lost, step_of}
use Rattle.lines.specs.Traces.{after, Reached, ReachedExactly}
use Rattle.lines.proofs.Step.{step_reached, unreached_refused}
use Rattle.lines.specs.declared.follower.Follower.{Follower}
use Rattle.lines.specs.declared.follower.Answer.TheVariants.{Idle, Lost}
use Rattle.refusals.specs.Refusal.{named}

below_32 : (history lost : Bool) (setting : ℕ) → is_reached (record { setting = setting; history = history; lost = lost }) ≡ true → ltb setting 32 ≡ true
unfolding is_reached pick
below_32 history true setting e = rw (eqb-true setting 0 (and_l (eqb setting 0) (not history) e))
below_32 true false setting e = every_one_of (λ s. ltb s 32) settings_with_history setting e refl
below_32 false false setting e = every_one_of (λ s. ltb s 32) seen_settings setting e refl

pub reached_below_32 : (f : Follower) → is_reached f ≡ true → f.setting < 32
reached_below_32 f e = ltb-true f.setting 32 (below_32 f.history f.lost f.setting e)

-- ---- no step leaves them

abbrev stays_inside : Bool → ℕ → ℕ → Bool
stays_inside history setting new = is_reached (moved (setting with-history history) new).follower

from_each : (history : Bool) (settings : List ℕ) → every (λ s. every_below 32 (stays_inside history s)) settings ≡ true
    → (setting new : ℕ) → one_of settings setting ≡ true → new < 32 → stays_inside history setting new ≡ true
from_each history settings computed setting new e h =
    every_below_lem 32 (stays_inside history setting) (every_one_of (λ s. every_below 32 (stays_inside history s)) settings setting e computed) new h

-- one computed test: each of the settings, with the history that it may have, at each new setting
move_stays : (history : Bool) (setting new : ℕ) → is_reached (setting with-history history) ≡ true → new < 32 → stays_inside history setting new ≡ true
unfolding is_reached pick entry_of said_by moved_by lacks_history remembers undefined_at
move_stays true = from_each true settings_with_history refl
move_stays false = from_each false seen_settings refl

lost_stays : (zero : Bool) → is_reached (pick zero (told Idle idle) (told Lost lost)).follower ≡ true
unfolding is_reached pick
lost_stays true = refl
lost_stays false = refl

taken_stays : (history gone : Bool) (setting new : ℕ) → is_reached (record { setting = setting; history = history; lost = gone }) ≡ true → new < 32
    → is_reached (pick gone (while_lost new) (moved (record { setting = setting; history = history; lost = gone }) new)).follower ≡ true
unfolding pick while_lost
taken_stays history true setting new e h = lost_stays (eqb new 0)
taken_stays history false setting new e h = move_stays history setting new e h

pub step_stays : (f : Follower) (new : ℕ) → is_reached f ≡ true → is_reached (step_of f new).follower ≡ true
unfolding pick
step_stays f new e = rw (step_reached f new e) (by_setting (ltb 31 new) refl)
  where
    by_setting : (over : Bool) → ltb 31 new ≡ over → is_reached (pick over (refused (named 8) f) (pick f.lost (while_lost new) (moved f new))).follower ≡ true
    by_setting true o = e
    by_setting false o = let h = ltb-false 31 new o in taken_stays f.history f.lost f.setting new e (omega arith)

pub trace_stays : (f : Follower) (trace : List ℕ) → is_reached f ≡ true → is_reached (after f trace) ≡ true
unfolding after
trace_stays f [] e = e
trace_stays f (new ∷ trace) e = trace_stays (step_of f new).follower trace (step_stays f new e)

-- and none changes a follower that is not one of them
pub trace_refused_lem : (f : Follower) (trace : List ℕ) → is_reached f ≡ false → after f trace ≡ f
unfolding after
trace_refused_lem f [] e = refl
trace_refused_lem f (new ∷ trace) e = rw (unreached_refused f new e) (trace_refused_lem f trace e)

-- so a follower is one of them behind a trace if it was one before
pub reached_throughout : (f : Follower) (trace : List ℕ) → is_reached (after f trace) ≡ is_reached f
reached_throughout f trace = by_test (is_reached f) refl
  where
    by_test : (reached : Bool) → is_reached f ≡ reached → is_reached (after f trace) ≡ reached
    by_test true e = trace_stays f trace e
    by_test false e = ap is_reached (trace_refused_lem f trace e) ∙ e

pub idle_reached : is_reached idle ≡ true
unfolding is_reached pick
idle_reached = refl

-- ---- each has a trace

by : (trace : List ℕ) {f : Follower} → after idle trace ≡ f → Reached f
by trace e = record { trace = trace; leads_here = e }

to_transfer : List ℕ
to_transfer = 16 ∷ 24 ∷ 25 ∷ 27 ∷ 26 ∷ 24 ∷ 28 ∷ []

-- a trace to each setting in turn, in the order of the list
unmarked_reached : Each (λ setting. Reached (setting with-history false)) seen_settings
unfolding after step_of is_reached pick entry_of said_by moved_by lacks_history remembers undefined_at while_lost to_transfer
unmarked_reached = (
  by [] refl,
  (
    by (1 ∷ []) refl,
    (
      by (4 ∷ []) refl,
      (
        by (16 ∷ 24 ∷ 8 ∷ []) refl,
        (
          by (to_transfer ++ (20 ∷ 16 ∷ [])) refl,
          (
            by (to_transfer ++ (20 ∷ [])) refl,
            (
              by (16 ∷ 24 ∷ []) refl,
              (
                by (16 ∷ 24 ∷ 25 ∷ []) refl,
                (
                  by (to_transfer ++ (30 ∷ 26 ∷ [])) refl,
                  (
                    by (16 ∷ 24 ∷ 25 ∷ 27 ∷ []) refl,
                    (
                      by to_transfer refl,
                      (
                        by (to_transfer ++ (30 ∷ 31 ∷ 29 ∷ [])) refl,
                        (
                          by (to_transfer ++ (30 ∷ [])) refl,
                          (by (to_transfer ++ (30 ∷ 31 ∷ [])) refl, tt),
                        ),
                      ),
                    ),
                  ),
                ),
              ),
            ),
          ),
        ),
      ),
    ),
  ),
)

marked_reached : Each (λ setting. Reached (setting with-history true)) settings_with_history
unfolding after step_of is_reached pick entry_of said_by moved_by lacks_history remembers undefined_at while_lost
marked_reached = (by (16 ∷ []) refl, (by (16 ∷ 24 ∷ 25 ∷ 27 ∷ 26 ∷ 24 ∷ []) refl, (by (16 ∷ 24 ∷ 25 ∷ 27 ∷ 26 ∷ []) refl, tt)))

lost_reached : Reached lost
unfolding after step_of is_reached pick entry_of said_by moved_by lacks_history remembers undefined_at while_lost
lost_reached = by (2 ∷ []) refl

trace_of : (history gone : Bool) (setting : ℕ) → is_reached (record { setting = setting; history = history; lost = gone }) ≡ true
    → Reached (record { setting = setting; history = history; lost = gone })
unfolding is_reached pick
trace_of true true setting e = absurd (false≢true (and_r (eqb setting 0) false e))
trace_of false true setting e = rw (eqb-true setting 0 (and_l (eqb setting 0) true e)) lost_reached
trace_of true false setting e = each_one_of (λ s. Reached (s with-history true)) settings_with_history setting e marked_reached
trace_of false false setting e = each_one_of (λ s. Reached (s with-history false)) seen_settings setting e unmarked_reached

pub reached_exactly : ReachedExactly
reached_exactly =
    record {
      stays_inside = λ trace. trace_stays idle trace idle_reached;
      has_a_trace = λ f. trace_of f.history f.lost f.setting;
    }
