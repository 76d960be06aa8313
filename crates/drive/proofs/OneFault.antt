-- From power-up no port ever has two bits of octet 2: where a command can be bad at its last word, its opening has cleared them.
-- Assumes nothing.
use Prim.Native.Nat.{ℕ}
use mathlib.Core.Path.{◌≡◌, refl, sym, ap, ◌∙◌}
use mathlib.Core.Bool.{Bool, true, false, true≢false}
use mathlib.Core.List.{List, [], ◌∷◌}
use borrow.Author.Tests.{not-false}
use lib.Dec.{eqb}
use Rattle.laws.specs.Pick.{pick}
use Rattle.laws.proofs.Pick.{either}
use Rattle.laws.proofs.Tests.{or_l}
use Rattle.parts.specs.Command.{read_status, code_of}
use Rattle.parts.specs.Control.{control_of}
use Rattle.parts.specs.Pending.{OneBit, bit7, bit6, bit5, bit4, with_bit, nothing_pending, noticed, faulted}
use Rattle.parts.specs.declared.kind.Kind.{Kind}
use Rattle.parts.specs.declared.kind.Kind.TheVariants.{Select, Deselect, Use, Reset, Unknown}
use Rattle.parts.specs.declared.kind.Work.{Work}
use Rattle.parts.specs.Tests.{is_taking, is_giving, no_transfer, transferring}
use Rattle.parts.specs.declared.command.Function.{Function}
use Rattle.parts.specs.declared.event.Event.{Event}
use Rattle.parts.specs.declared.pending.Pending.{Pending}
use Rattle.drive.specs.State.{pending_on, posted_on, Result}
use Rattle.drive.specs.Drive.{owner_noticed, selected, deselected, after_reset, reserved, unreserved, priority_reserved, head_stepped, at_its_target, closed, ended}
use Rattle.drive.specs.Request.{octet2_cleared}
use Rattle.drive.specs.Command.{status_cleared}
use Rattle.drive.specs.Refusal.{row7, is_one_open}
use Rattle.drive.specs.Power.{at_rest}
use Rattle.drive.specs.Run.{Machine, machine, after, final}
use Rattle.drive.specs.Ignored.{OneAtMost, none, one}
use Rattle.drive.specs.Frame as frame
use Rattle.drive.specs.declared.drive.Drive.{Drive}
use Rattle.drive.specs.declared.answer.Outcome.{Outcome}
use Rattle.drive.proofs.Laws.{by_cases, done_by, AllPassed, its_own}
use Rattle.drive.proofs.Cleared.{posted_there}
use Rattle.drive.proofs.Posted.{OnBoth, on_either, posted_on_lem}
use Rattle.drive.proofs.Outcomes
use Rattle.parts.specs.declared.setup.Setup.{Setup}

abbrev pub Few : Pending → Type 0
Few p = OneAtMost p.octet2

-- and where words of a host are to come, its port has none
pub record OneFault (d : Drive) : Type 0 where
  pub few : OnBoth Few d
  pub coming : is_taking d.transfer ≡ true → (pending_on d d.holding.selected).octet2 ≡ 0

none_taking : is_taking no_transfer ≡ false
unfolding control_of code_of pick
none_taking = refl

-- where no words are to come, there is no more to say
unless_coming : {d : Drive} → OnBoth Few d → is_taking d.transfer ≡ false → OneFault d
unless_coming f h = record { few = f; coming = λ t. absurd (true≢false (sym t ∙ h)) }

idle_taking : (d : Drive) → is_one_open d ≡ false → is_taking d.transfer ≡ false
idle_taking d h = or_l (is_taking d.transfer) (is_giving d.transfer) h

-- a drive with nothing to come and this posted on a port
posted_alone : (d : Drive) (port : ℕ) (new : Pending) → OnBoth Few d → is_taking d.transfer ≡ false → Few new → OneFault (posted_on d port new)
unfolding posted_on
posted_alone d port new f h g = unless_coming (posted_on_lem Few d port new f g) h

one_set : {bit : ℕ} (p : Pending) → p.octet2 ≡ 0 → OneBit bit → Few (faulted p bit)
unfolding faulted with_bit pick
one_set p h bit7 = rw h (one bit7)
one_set p h bit6 = rw h (one bit6)
one_set p h bit5 = rw h (one bit5)
one_set p h bit4 = rw h (one bit4)

-- 44 takes no words of the host
status_gives : (c : ℕ) → eqb c read_status ≡ true → is_taking (transferring c 0) ≡ false
status_gives c z = rw (Outcomes.status_responds c z)

not_44 : (c : ℕ) → is_taking (transferring c 0) ≡ true → eqb c read_status ≡ false
not_44 c t = by_test (eqb c read_status) refl
  where
    by_test : (status : Bool) → eqb c read_status ≡ status → status ≡ false
    by_test true z = absurd (true≢false (sym t ∙ status_gives c z))
    by_test false z = refl

module _ {d : Drive} {e : Event} (f : OnBoth Few d) (idle : is_one_open d ≡ false) (own : d.holding.selected ≡ e.port) where
  asked_one : {work : Work} {o : Outcome} → (frame.ClearsFirst e (Use work) → (pending_on d e.port).octet2 ≡ 0) → Outcomes.Asked d e work o → OneFault o.drive
  unfolding pending_on posted_on head_stepped at_its_target ended
  asked_one z (Outcomes.bad q b) = unless_coming (posted_on_lem Few d e.port _ f (one_set (pending_on d e.port) (z q) b)) (idle_taking d idle)
  asked_one z (Outcomes.stepped k) = unless_coming f (idle_taking d idle)
  asked_one z (Outcomes.nothing_to_come (Outcomes.in_place a) w) = unless_coming f none_taking
  asked_one z (Outcomes.nothing_to_come (Outcomes.at_target a t) w) = unless_coming f none_taking
  asked_one z (Outcomes.opens (Outcomes.in_place a) w y) = record { few = f; coming = λ t. rw own (z (frame.control (not_44 e.a0 t))) }
  asked_one z (Outcomes.opens (Outcomes.at_target a s) w y) = record { few = f; coming = λ t. rw own (z (frame.control (not_44 e.a0 t))) }
  asked_one z (Outcomes.placed p) = unless_coming f (idle_taking d idle)
  asked_one z (Outcomes.aimed t) = unless_coming f (idle_taking d idle)

-- a function touches neither what is pending nor, with nothing open, what is to come
function_one : {d at : Drive} {g : Function} → OnBoth Few d → is_taking d.transfer ≡ false → Outcomes.FunctionDone d g at → OneFault at
unfolding reserved unreserved priority_reserved
function_one f h Outcomes.prioritised = unless_coming f h
function_one f h Outcomes.reserves = unless_coming f h
function_one f h Outcomes.releases = unless_coming f h
function_one f h Outcomes.idles = unless_coming f h
function_one f h Outcomes.recalibrates = unless_coming f h

module _ {d : Drive} (e : Event) (i : OneFault d) (own : d.holding.selected ≡ e.port) where
  exchange_one : {work : Work} {o : Outcome} → row7 work d ≡ false → Outcomes.Exchanged d e work o → OneFault o.drive
  unfolding pending_on closed status_cleared
  exchange_one t (Outcomes.kept z) = record { few = i.few; coming = i.coming }
  exchange_one t (Outcomes.obeys (Outcomes.by_function z q g)) = function_one i.few none_taking g
  exchange_one t (Outcomes.obeys (Outcomes.by_seek z p q)) = unless_coming i.few none_taking
  exchange_one t (Outcomes.disobeys b) =
      let none_before : (pending_on d e.port).octet2 ≡ 0 = rw own at (i.coming (not-false (is_taking d.transfer) t)) in
      posted_alone (closed d) e.port _ i.few none_taking (one_set (pending_on d e.port) none_before (Outcomes.its_bit b))
  exchange_one t (Outcomes.tells z) = record { few = i.few; coming = i.coming }
  exchange_one t (Outcomes.tells_last z) = either OneFault _ (posted_alone (closed d) e.port nothing_pending i.few none_taking none) (unless_coming i.few none_taking)
  exchange_one t Outcomes.cut = unless_coming i.few none_taking

  heard_one : {at : Drive} {work : Work} {o : Outcome} → row7 work d ≡ false → Outcomes.Heard d e work at → Outcomes.Asked at e work o → OneFault o.drive
  unfolding octet2_cleared posted_on
  heard_one t (Outcomes.afresh q y) x =
      asked_one (posted_on_lem Few d e.port _ i.few none) (Outcomes.request_idle d q t) own (λ r. ap (λ (p : Pending). p.octet2) (posted_there d e.port _)) x
  heard_one t (Outcomes.as_it_was y) x = asked_one i.few t own (λ r. absurd (Outcomes.not_for_status r y)) x

  quiet_one : {sectors : List ℕ} {work : Work} {o : Outcome} → row7 work d ≡ false → Outcomes.Quiet d e sectors work o → OneFault o.drive
  unfolding ended pending_on
  quiet_one t (Outcomes.unsolicited q z) = i
  quiet_one t (Outcomes.asked h x) = heard_one t h x
  quiet_one t (Outcomes.taken_last high) = unless_coming i.few none_taking
  quiet_one t (Outcomes.taken high z) = record { few = i.few; coming = i.coming }
  quiet_one t (Outcomes.ends high) = unless_coming i.few none_taking
  quiet_one t (Outcomes.exchanged low x) = exchange_one t x
  quiet_one t Outcomes.status_told = posted_alone d e.port nothing_pending i.few (idle_taking d t) none

  work_one : {sectors staging : List ℕ} {work : Work} {r : Result} → row7 work d ≡ false → Outcomes.WorkDone d e sectors staging work r → OneFault r.outcome.drive
  unfolding ended pending_on
  work_one t (Outcomes.quiet q) = quiet_one t q
  work_one t (Outcomes.miscompared high) = unless_coming i.few none_taking
  work_one t (Outcomes.completed high z) = unless_coming i.few none_taking
  work_one t (Outcomes.more high z) = record { few = i.few; coming = i.coming }

kind_one : (k : Kind) (m : Machine) (e : Event) → AllPassed k m e → OneFault m.drive → OneFault (done_by k m e).outcome.drive
unfolding selected owner_noticed deselected after_reset noticed
kind_one Select m e p i =
    let d = m.drive in
    unless_coming (either (OnBoth Few) _ (posted_on_lem Few d d.holding.owner _ i.few (on_either Few d d.holding.owner i.few)) i.few) none_taking
kind_one Deselect m e p i = unless_coming i.few (idle_taking m.drive p.own.1.0)
kind_one Reset m e p i = unless_coming (none, none) none_taking
kind_one Unknown m e p i = i
kind_one (Use work) m e p i = work_one e i (its_own m e p.own.0) p.own.1.0 (Outcomes.work_done m.drive e m.sectors m.staging work)

one_along : (m : Machine) (events : List Event) → OneFault m.drive → OneFault (final m events).drive
unfolding final
one_along m [] i = i
one_along m (e ∷ events) i = one_along (after m e) events (by_cases (λ answer next. OneFault next.drive) m e (λ n z. i) (λ k z p. kind_one k m e p i))

-- so from power-up, where nothing is pending and nothing is open
pub one_from_rest : (s : Setup) (sectors staging : List ℕ) (events : List Event) → OneFault (final (machine (at_rest s) sectors staging) events).drive
one_from_rest s sectors staging events = one_along (machine (at_rest s) sectors staging) events (unless_coming (none, none) none_taking)
