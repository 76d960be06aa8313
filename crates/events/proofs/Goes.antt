-- The words of a state after an event.
-- Assumes nothing.
use Rattle.std.proofs.Common.{◌≡◌, ℕ, ◌≤◌, Bool, true, false, not, List, [], ◌∷◌, length, sym, refl, ap, ◌∙◌, subst}
use mathlib.Core.Bool.{or-true}
use Rattle.laws.specs.Pick.{pick}
use Rattle.parts.specs.Setup.{within_limits}
use Rattle.parts.specs.Tests.{is_outside_limits}
use Rattle.parts.specs.declared.event.Event.{Event}
use Rattle.drive.specs.Refusal.{row11}
use Rattle.drive.specs.Run.{Machine, machine, after, final}
use Rattle.drive.specs.declared.drive.Drive.{Drive}
use Rattle.drive.proofs.Step.{refused_with_11}
use Rattle.drive.proofs.StaysSound.{same_size_lem}
use Rattle.events.specs.State.{hold_is_known, selected_in, drive_in, moved_to, state_after}
use Rattle.events.specs.Event.{machine_in}
use Rattle.events.proofs.Changes.{kept}
use Rattle.events.proofs.Octets.{octets_after}
use Rattle.events.proofs.Back.{after_again, drive_again, long_again, octets_in_lem}

unsound_hold : (state : List ℕ) → hold_is_known state ≡ false → row11 (drive_in state) ≡ true
unfolding row11 is_outside_limits drive_in selected_in pick
unsound_hold state k = rw (k, or-true (not (within_limits (drive_in state).setup)))

pub unmoved : (state : List ℕ) → 23 ≤ length state → state_after state (drive_in state) ≡ state
unfolding state_after pick
unmoved state h = by_hold (hold_is_known state) refl
  where
    by_hold : (test : Bool) → hold_is_known state ≡ test → pick test (moved_to state (drive_in state)) state ≡ state
    by_hold true k = kept state h k
    by_hold false k = refl

-- after an event the words stand for the drive after it, and the next ones are written as from the start
pub record Goes (state : List ℕ) (d : Drive) : Type 0 where
  pub long : 23 ≤ length (state_after state d)
  pub drive : drive_in (state_after state d) ≡ d
  pub again : (d' : Drive) → state_after (state_after state d) d' ≡ state_after state d'

pub moved_known : (state : List ℕ) (d : Drive) → hold_is_known state ≡ true → state_after state d ≡ moved_to state d
unfolding state_after pick
moved_known state d k = rw k

goes_known : (state sectors staging : List ℕ) (e : Event) → 23 ≤ length state → hold_is_known state ≡ true → Goes state (after (machine_in state sectors staging) e).drive
goes_known state sectors staging e h k =
    let m = machine_in state sectors staging in
    let d = (after m e).drive in
    let moved = moved_known state d k in
    record {
      long = rw moved (long_again state d h);
      drive = rw moved (drive_again state d h (octets_after m e (octets_in_lem state)) (same_size_lem m e).setup);
      again = λ d'. rw moved (after_again state d d' h k);
    }

goes_refused : (state sectors staging : List ℕ) (e : Event) → 23 ≤ length state → hold_is_known state ≡ false → Goes state (after (machine_in state sectors staging) e).drive
unfolding after
goes_refused state sectors staging e h k =
    let still = refused_with_11 (drive_in state) e sectors staging (unsound_hold state k) in
    let same = unmoved state h in
    record { long = rw (still, same) h; drive = rw (still, same); again = λ d'. rw (still, same) }

pub goes : (state sectors staging : List ℕ) (e : Event) → 23 ≤ length state → Goes state (after (machine_in state sectors staging) e).drive
goes state sectors staging e h = by_hold (hold_is_known state) refl
  where
    by_hold : (test : Bool) → hold_is_known state ≡ test → Goes state (after (machine_in state sectors staging) e).drive
    by_hold true k = goes_known state sectors staging e h k
    by_hold false k = goes_refused state sectors staging e h k

-- and after a run
pub goes_along : (state sectors staging : List ℕ) (events : List Event) → 23 ≤ length state → Goes state (final (machine_in state sectors staging) events).drive
unfolding final
goes_along state sectors staging [] h =
    let same = unmoved state h in
    record { long = rw same h; drive = rw same; again = λ d'. rw same }
goes_along state sectors staging (e ∷ events) h =
    let left = after (machine_in state sectors staging) e in
    let now = goes state sectors staging e h in
    let there : machine_in (state_after state left.drive) left.sectors left.staging ≡ left =
    ap (λ (d : Drive). machine d left.sectors left.staging) now.drive in
    let later = goes_along (state_after state left.drive) left.sectors left.staging events now.long in
    from_there state left.drive _ now (subst (λ (m : Machine). Goes (state_after state left.drive) (final m events).drive) there later)
  where
    from_there : (state : List ℕ) (d d' : Drive) → Goes state d → Goes (state_after state d) d' → Goes state d'
    from_there state d d' now later =
        let same = now.again d' in
        record {
          long = subst (λ (l : List ℕ). 23 ≤ length l) same later.long;
          drive = ap drive_in (sym same) ∙ later.drive;
          again = λ d''. ap (λ (l : List ℕ). state_after l d'') (sym same) ∙ later.again d'' ∙ now.again d'';
        }
