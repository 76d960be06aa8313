-- Kinds 3, 7 and 8 on words: what is pending in octet 1 comes before the request, which finds octet 2 cleared; and a request may follow a move.
-- Assumes nothing.
use Rattle.std.proofs.Common.{◌≡◌, ℕ, Bool, true, false, List, sym, refl, ◌∙◌, arith, ne_eqb}
use Rattle.laws.specs.Pick.{pick}
use Rattle.status.specs.declared.drive_status.DriveStatus.TheVariants.{UnsolicitedException}
use Rattle.parts.specs.Setup.{no_target}
use Rattle.parts.specs.Control.{control_of}
use Rattle.parts.specs.declared.control.Control.{Control}
use Rattle.drive.specs.State.{posted_on}
use Rattle.drive.specs.Drive.{at_its_target, closed}
use Rattle.drive.specs.Request.{octet2_cleared, taken_up, opened, controlled}
use Rattle.drive.specs.declared.answer.Answer.{Answer}
use Rattle.drive.specs.declared.answer.Outcome.{Outcome}
use Rattle.drive.specs.declared.answer.Answer.TheVariants.{Status}
use Rattle.drive.specs.declared.drive.Drive.{Drive}
use Rattle.drive.proofs.Sound.{Sound, sound, unsound}
use Rattle.drive.proofs.SoundPlace.{at_target_kept, cleared_kept}
use Rattle.drive.proofs.Posted.{posted_on_lem}
use Rattle.drive.proofs.SoundHolding.{closed_kept}
use Rattle.events.specs.State.{drive_in, moved_to}
use Rattle.events.specs.Fit.{Fit, Did, TakenUp}
use Rattle.events.proofs.Octets.{Octet2, Octets}
use Rattle.events.proofs.Back.{did_then, drive_again, long_again, octets_in_lem}
use Rattle.events.proofs.Done.{did_nothing}

-- words moved to a sound drive with the same set-up are those of a sound state
moved_fit : {state state' : List ℕ} (d : Drive) → Fit state → Octets d → d.setup ≡ (drive_in state).setup → Sound d → state' ≡ moved_to state d → Fit state'
moved_fit {state} d f o s k e = record { long = rw e (long_again state d f.long); sound = rw (e, drive_again state d f.long o s) (unsound d k) }

-- a request that octet 1 stops changes nothing
pub did_stopped : (state : List ℕ) (port : ℕ) (request : Drive → Outcome) (r : Bool) {state' : List ℕ} → Fit state → TakenUp state port r state' → r ≡ false
    → Did state (taken_up (drive_in state) port request) (Status UnsolicitedException) state'
unfolding pick
did_stopped state port request r f t z =
    rw (sym t.heard ∙ z, rw z at t.state) (did_nothing (Status UnsolicitedException) f)

-- and one that goes on finds octet 2 cleared
cleared : {state state' : List ℕ} {port : ℕ} {r : Bool} → TakenUp state port r state' → r ≡ true → state' ≡ moved_to state (octet2_cleared (drive_in state) port)
unfolding pick
cleared t z = rw z at t.state

cleared_octets : (state : List ℕ) (port : ℕ) → Octets (octet2_cleared (drive_in state) port)
unfolding octet2_cleared
cleared_octets state port = posted_on_lem Octet2 (drive_in state) port _ (octets_in_lem state) (omega arith)

cleared_setup : (d : Drive) (port : ℕ) → (octet2_cleared d port).setup ≡ d.setup
unfolding octet2_cleared posted_on
cleared_setup d port = refl

pub heard_fit : {state state' : List ℕ} {port : ℕ} {r : Bool} → Fit state → TakenUp state port r state' → r ≡ true → Fit state'
heard_fit {state} {port = port} f t z =
    let d = drive_in state in
    moved_fit (octet2_cleared d port) f (cleared_octets state port) (cleared_setup d port) (cleared_kept port (sound d f.sound)) (cleared t z)

pub did_heard : (state : List ℕ) (port : ℕ) (request : Drive → Outcome) (r : Bool) {answer : Answer} {state' state'' : List ℕ} → Fit state → TakenUp state port r state'
    → r ≡ true → Did state' (request (drive_in state')) answer state'' → Did state (taken_up (drive_in state) port request) answer state''
unfolding pick
did_heard state port request r f t z d =
    rw (sym t.heard ∙ z)
    (did_then (octet2_cleared (drive_in state) port) request f.long (cleared_octets state port) (cleared_setup (drive_in state) port) (cleared t z) d)

pub at_target_fit : {state state' : List ℕ} → Fit state → ((drive_in state).target ≡ no_target → ⊥) → state' ≡ moved_to state (at_its_target (drive_in state)) → Fit state'
unfolding at_its_target
at_target_fit {state} f n e =
    moved_fit (at_its_target (drive_in state)) f (octets_in_lem state) refl (at_target_kept (sound (drive_in state) f.sound) (ne_eqb (drive_in state).target no_target n)) e

pub closed_fit : {state state' : List ℕ} → Fit state → state' ≡ moved_to state (closed (drive_in state)) → Fit state'
unfolding closed
closed_fit {state} f e = moved_fit (closed (drive_in state)) f (octets_in_lem state) refl (closed_kept (sound (drive_in state) f.sound)) e

-- a transfer that opens at the target: the move, and then the opening
pub did_at_target : {state state' state'' : List ℕ} {r : Answer} (control : ℕ) → Fit state → state' ≡ moved_to state (at_its_target (drive_in state))
    → Did state' (opened (drive_in state') control) r state'' → Did state (opened (at_its_target (drive_in state)) control) r state''
unfolding at_its_target
did_at_target {state} control f e t = did_then (at_its_target (drive_in state)) (λ (d : Drive). opened d control) f.long (octets_in_lem state) refl e t

-- a command that is closed, and then done
pub did_closed : {state state' state'' : List ℕ} {r : Answer} (f : Drive → Outcome) → Fit state → state' ≡ moved_to state (closed (drive_in state))
    → Did state' (f (drive_in state')) r state'' → Did state (f (closed (drive_in state))) r state''
unfolding closed
did_closed {state} f fits e t = did_then (closed (drive_in state)) f fits.long (octets_in_lem state) refl e t

-- by the kind of the control
pub did_controlled : (state : List ℕ) (port control : ℕ) (kind : Control) {answer : Answer} {state' : List ℕ} → kind ≡ control_of control
    → Did state (controlled kind (drive_in state) port control) answer state' → Did state (controlled (control_of control) (drive_in state) port control) answer state'
did_controlled state port control kind e t = rw (← e) t
