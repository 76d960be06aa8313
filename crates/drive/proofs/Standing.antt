-- Where the drive stands is what the events and answers say: after every event the two keep step. So the place of an opening follows.
-- Assumes nothing.
use Prim.Native.Nat.{ℕ}
use mathlib.Core.Path.{◌≡◌, refl, sym, ap, ◌∙◌}
use mathlib.Core.Bool.{true, false, ◌||◌, false≢true}
use mathlib.Core.List.{List, [], ◌∷◌}
use mathlib.Core.Option.{none}
use Rattle.laws.specs.Pick.{pick}
use Rattle.parts.specs.Control.{control_of, is_write, is_read, is_data}
use Rattle.parts.specs.Tests.{transferring, no_transfer}
use Rattle.parts.specs.Kind.{kind_of}
use Rattle.parts.specs.declared.kind.Kind.{Kind}
use Rattle.parts.specs.declared.kind.Kind.TheVariants.{Select, Deselect, Use, Reset, Unknown}
use Rattle.parts.specs.declared.kind.Work.{Work}
use Rattle.parts.specs.declared.control.Control.{Control}
use Rattle.parts.specs.declared.command.Function.{Function}
use Rattle.parts.specs.declared.setup.Setup.{Setup}
use Rattle.parts.specs.declared.event.Event.{Event}
use Rattle.drive.specs.State.{Result, posted_on}
use Rattle.drive.specs.Drive.{owner_noticed, selected, deselected, after_reset, reserved, unreserved, priority_reserved, head_stepped, at_its_target, closed, ended}
use Rattle.drive.specs.Request.{octet2_cleared}
use Rattle.drive.specs.Command.{status_cleared}
use Rattle.drive.specs.Answer.{Paper, paper}
use Rattle.drive.specs.Accepted.{is_refused}
use Rattle.drive.specs.Run.{Machine, answer_to, after, answers, final}
use Rattle.drive.specs.Standing.{Standing, standing, with_transfer, sought, is_normal, recalibrated, at_once, on_next_sector, stands, stands_after, standing_from}
use Rattle.drive.specs.Frame as frame
use Rattle.drive.specs.declared.drive.Drive.{Drive}
use Rattle.drive.specs.declared.answer.Answer.{Answer}
use Rattle.drive.specs.declared.answer.Outcome.{Outcome}
use Rattle.laws.proofs.Pick.{either}
use Rattle.drive.proofs.Laws.{by_cases, done_by, left, AllPassed, accepts}
use Rattle.drive.proofs.StaysSound.{same_size_lem}
use Rattle.drive.proofs.Outcomes

abbrev pub standing_of : Drive → Standing
standing_of d = standing d.place d.target d.transfer

-- a transfer is sought where the events say
pub sought_there : {d at : Drive} {c : ℕ} → Outcomes.Sought d c at → sought c (standing_of d) ≡ standing_of at
unfolding pick at_its_target
sought_there (Outcomes.in_place a) = rw a
sought_there (Outcomes.at_target a z) = rw a

-- a write or a read that ends at once goes on to the next sector
ended_at_once : (k : Control) (s : Setup) (c : ℕ) (w : Standing) → (is_write k || is_read k) ≡ true → at_once k s c w ≡ on_next_sector s (sought c w)
ended_at_once Control.Write s c w h = refl
ended_at_once Control.Read s c w h = refl
ended_at_once Control.Command s c w h = absurd (false≢true h)
ended_at_once Control.Response s c w h = absurd (false≢true h)
ended_at_once Control.StepHead s c w h = absurd (false≢true h)
ended_at_once Control.Reserved s c w h = absurd (false≢true h)
ended_at_once Control.Unsupported s c w h = absurd (false≢true h)
ended_at_once Control.Invalid s c w h = absurd (false≢true h)

pub sought_setup : {d at : Drive} {c : ℕ} → Outcomes.Sought d c at → at.setup ≡ d.setup
unfolding at_its_target
sought_setup (Outcomes.in_place a) = refl
sought_setup (Outcomes.at_target a z) = refl

-- kinds 3, 7 and 8 that were stopped or bad stay where they were
request_stands : {work : Work} {e : Event} → frame.ClearsFirst e (Use work) → (s : Setup) (told : Paper) (w : Standing) → told.place ≡ none → is_normal told.status ≡ false
    → stands (Use work) s e told w ≡ w
unfolding pick
request_stands (frame.control c) s told w h n = rw (h, n)
request_stands frame.position s told w h n = rw n
request_stands frame.target s told w h n = rw n

function_stands : {d at : Drive} {f : Function} → Outcomes.FunctionDone d f at → standing (recalibrated f d.place) d.target d.transfer ≡ standing_of at
unfolding reserved unreserved priority_reserved
function_stands Outcomes.prioritised = refl
function_stands Outcomes.reserves = refl
function_stands Outcomes.releases = refl
function_stands Outcomes.idles = refl
function_stands Outcomes.recalibrates = refl

cleared_stands : (c : ℕ) (d : Drive) (port : ℕ) → standing_of d ≡ standing_of (status_cleared c d port)
unfolding status_cleared posted_on
cleared_stands c d port = either (λ (at : Drive). standing_of d ≡ standing_of at) _ refl refl

-- a command or response
exchange_stands : {d : Drive} {e : Event} {work : Work} {o : Outcome} → is_data d.transfer.control ≡ false → Outcomes.Exchanged d e work o
    → stands (Use work) d.setup e (paper o.answer) (standing_of d) ≡ standing_of o.drive
unfolding paper pick posted_on closed
exchange_stands low (Outcomes.kept z) = rw low
exchange_stands {d} low (Outcomes.obeys (Outcomes.by_function z q h)) = rw (low, z, q) (function_stands h)
exchange_stands low (Outcomes.obeys (Outcomes.by_seek z i j)) = rw (low, z)
exchange_stands low (Outcomes.disobeys b) = rw low
exchange_stands low (Outcomes.tells z) = refl
exchange_stands {d} {e} low (Outcomes.tells_last z) = rw low (cleared_stands d.transfer.control (closed d) e.port)
exchange_stands low Outcomes.cut = rw low

asked_stands : {d : Drive} {e : Event} {work : Work} {o : Outcome} → Outcomes.Asked d e work o
    → stands (Use work) d.setup e (paper o.answer) (standing_of d) ≡ standing_of o.drive
unfolding paper pick posted_on head_stepped ended
asked_stands {d} (Outcomes.bad q b) = request_stands q d.setup _ (standing_of d) refl refl
asked_stands (Outcomes.stepped k) = rw k
asked_stands {d} {e} (Outcomes.nothing_to_come q w) = rw (ended_at_once (control_of e.a0) d.setup e.a0 (standing_of d) w, sought_there q, sought_setup q)
asked_stands {e = e} (Outcomes.opens q o z) = ap (λ (w : Standing). with_transfer w (transferring e.a0 0)) (sought_there q)
asked_stands (Outcomes.placed h) = refl
asked_stands (Outcomes.aimed h) = refl

quiet_stands : {d : Drive} {e : Event} {sectors : List ℕ} {work : Work} {o : Outcome} → Outcomes.Quiet d e sectors work o
    → stands (Use work) d.setup e (paper o.answer) (standing_of d) ≡ standing_of o.drive
unfolding paper pick posted_on octet2_cleared ended
quiet_stands {d} (Outcomes.unsolicited q z) = request_stands q d.setup _ (standing_of d) refl refl
quiet_stands (Outcomes.asked (Outcomes.afresh c z) x) = asked_stands x
quiet_stands (Outcomes.asked (Outcomes.as_it_was z) x) = asked_stands x
quiet_stands (Outcomes.taken_last high) = rw high
quiet_stands (Outcomes.taken high z) = refl
quiet_stands (Outcomes.ends high) = rw high
quiet_stands (Outcomes.exchanged low x) = exchange_stands low x
quiet_stands Outcomes.status_told = refl

work_stands : {d : Drive} {e : Event} {sectors staging : List ℕ} {work : Work} {r : Result} → Outcomes.WorkDone d e sectors staging work r
    → stands (Use work) d.setup e (paper r.outcome.answer) (standing_of d) ≡ standing_of r.outcome.drive
unfolding paper pick ended
work_stands (Outcomes.quiet q) = quiet_stands q
work_stands (Outcomes.miscompared high) = rw high
work_stands (Outcomes.completed high z) = rw high
work_stands (Outcomes.more high z) = rw high

kind_stands : (k : Kind) (m : Machine) (e : Event) → AllPassed k m e
    → stands k m.drive.setup e (paper (done_by k m e).outcome.answer) (standing_of m.drive) ≡ standing_of (left (done_by k m e)).drive
unfolding selected owner_noticed posted_on deselected after_reset
kind_stands Select m e p = either (λ (d : Drive). with_transfer (standing_of m.drive) no_transfer ≡ with_transfer (standing_of d) no_transfer) _ refl refl
kind_stands Deselect m e p = refl
kind_stands Reset m e p = refl
kind_stands Unknown m e p = refl
kind_stands (Use work) m e p = work_stands (Outcomes.work_done m.drive e m.sectors m.staging work)

stands_as : (k : Kind) (s : Setup) (e : Event) (answer : Answer) (w : Standing) → kind_of e.kind ≡ k → is_refused answer ≡ false
    → stands_after s e answer w ≡ stands k s e (paper answer) w
unfolding stands_after pick
stands_as k s e answer w z h = rw (z, h)

in_step : (m : Machine) (e : Event) → stands_after m.drive.setup e (answer_to m e) (standing_of m.drive) ≡ standing_of (after m e).drive
unfolding stands_after pick
in_step m e =
    by_cases (λ answer next. stands_after m.drive.setup e answer (standing_of m.drive) ≡ standing_of next.drive) m e (λ n z. refl)
    (λ k z p. stands_as k m.drive.setup e (done_by k m e).outcome.answer (standing_of m.drive) z (accepts k m e) ∙ kind_stands k m e p)

pub stands_there : (m : Machine) (events : List Event)
    → standing_from m.drive.setup (standing_of m.drive) events (answers m events) ≡ standing_of (final m events).drive
unfolding standing_from answers final
stands_there m [] = refl
stands_there m (e ∷ events) =
    let told = answers (after m e) events in
    ap (λ (w : Standing). standing_from m.drive.setup w events told) (in_step m e)
    ∙ ap (λ (s : Setup). standing_from s (standing_of (after m e).drive) events told) (sym (same_size_lem m e).setup)
    ∙ stands_there (after m e) events
