-- The laws through which the theorems about runs speak of an event: a refusal that changes nothing, or what its kind does with all tests passed.
-- Assumes nothing.
use Prim.Native.Nat.{ℕ, zero, suc, ◌<◌}
use mathlib.Core.Path.{◌≡◌, refl, sym, ap, subst, ◌∙◌}
use mathlib.Core.Bool.{true, false, not, true≢false, false≢true}
use mathlib.Core.List.{List}
use native.Mathlib.Omega.{arith}
use borrow.Author.Tests.{eqb-true, eqb-false, ltb-false, not-false}
use lib.Dec.{eqb}
use Rattle.laws.specs.Rows.{unless_refused}
use Rattle.laws.proofs.Pick.{either}
use Rattle.laws.proofs.Rows.{Passed, numbered, all_passed}
use Rattle.refusals.specs.Refusal.{named}
use Rattle.refusals.specs.declared.refusal.Refusal.{Refusal}
use Rattle.status.specs.declared.drive_status.DriveStatus.TheVariants.{Normal}
use Rattle.parts.specs.Holding.{nobody, granted_to, released, released_from}
use Rattle.parts.specs.Kind.{kind_of}
use Rattle.parts.specs.declared.kind.Kind.{Kind}
use Rattle.parts.specs.declared.kind.Kind.TheVariants.{Select, Deselect, Use, Reset, Unknown}
use Rattle.parts.specs.declared.kind.Work.{Work}
use Rattle.drive.specs.State.{Result, told, posted_on}
use Rattle.drive.specs.Drive.{selected, deselected, after_reset, reserved, unreserved, priority_reserved, head_stepped, at_its_target, closed, ended}
use Rattle.drive.specs.Request.{octet2_cleared}
use Rattle.drive.specs.Command.{status_cleared}
use Rattle.drive.specs.Refusal.{row11, row10, row1, row8, rows_of, rows, refusal_of}
use Rattle.drive.specs.Event.{act, refused_with, handled}
use Rattle.drive.specs.Run.{Machine, machine, answer_to, after}
use Rattle.drive.specs.Accepted.{is_refused}
use Rattle.parts.specs.declared.command.Function.{Function}
use Rattle.parts.specs.declared.holding.Holding.{Holding}
use Rattle.parts.specs.declared.holding.Hold.{Hold}
use Rattle.parts.specs.declared.holding.Hold.TheVariants.{None, Plain, Strong}
use Rattle.drive.specs.declared.drive.Drive.{Drive}
use Rattle.parts.specs.declared.event.Event.{Event}
use Rattle.drive.specs.declared.answer.Answer.{Answer}
use Rattle.drive.specs.declared.answer.Outcome.{Outcome}
use Rattle.drive.specs.declared.answer.Answer.TheVariants.{Refused, Status, LastWord}
use Rattle.drive.proofs.Outcomes

-- ---- the one way into an event

-- what an accepted event of a kind does to a machine, and the machine that it leaves
abbrev pub done_by : Kind → Machine → Event → Result
done_by k m e = act k m.drive e m.sectors m.staging

abbrev pub left : Result → Machine
left r = machine r.outcome.drive r.sectors r.staging

-- what an accepted event has passed
pub record AllPassed (k : Kind) (m : Machine) (e : Event) : Type 0 where
  pub sound : row11 m.drive ≡ false
  pub room : row10 m.drive.setup m.sectors m.staging ≡ false
  pub port : row1 e ≡ false
  pub formed : row8 k e ≡ false
  pub own : Passed (rows_of k m.drive e)

rows_numbered : (k : Kind) (m : Machine) (e : Event) → numbered (rows k m.drive e m.sectors m.staging) ≡ true
rows_numbered Select m e = refl
rows_numbered Deselect m e = refl
rows_numbered Reset m e = refl
rows_numbered Unknown m e = refl
rows_numbered (Use work) m e = refl

passed_all : (k : Kind) (m : Machine) (e : Event) → refusal_of k m.drive e m.sectors m.staging ≡ 0 → AllPassed k m e
unfolding refusal_of
passed_all k m e z =
    let p = all_passed (rows k m.drive e m.sectors m.staging) (rows_numbered k m e) z in
    record { sound = p.0; room = p.1.0; port = p.1.1.0; formed = p.1.1.1.0; own = p.1.1.1.1 }

by_refusal : (P : Answer → Machine → Type 0) (n : ℕ) (m : Machine) (r : Result)
    → ((j : ℕ) → n ≡ suc j → P (Refused (named (suc j))) m) → (n ≡ 0 → P r.outcome.answer (left r))
    → let given = unless_refused n (refused_with n m.drive m.sectors m.staging) r in P given.outcome.answer (left given)
by_refusal P zero m r refused done = done refl
by_refusal P (suc n) m r refused done = refused n refl

pub by_cases : (P : Answer → Machine → Type 0) (m : Machine) (e : Event)
    → ((n : ℕ) → refusal_of (kind_of e.kind) m.drive e m.sectors m.staging ≡ suc n → P (Refused (named (suc n))) m)
    → ((k : Kind) → kind_of e.kind ≡ k → AllPassed k m e → P (done_by k m e).outcome.answer (left (done_by k m e)))
    → P (answer_to m e) (after m e)
unfolding handled answer_to after
by_cases P m e refused done =
    let k = kind_of e.kind in
    by_refusal P (refusal_of k m.drive e m.sectors m.staging) m (done_by k m e) refused (λ z. done k refl (passed_all k m e z))

-- an event whose kind is known
pub by_kind : (P : Answer → Machine → Type 0) (k : Kind) (m : Machine) (e : Event) → kind_of e.kind ≡ k → ((refusal : Refusal) → P (Refused refusal) m)
    → (AllPassed k m e → P (done_by k m e).outcome.answer (left (done_by k m e))) → P (answer_to m e) (after m e)
by_kind P k m e z refused done =
    by_cases P m e (λ n y. refused (named (suc n)))
    (λ k' y p. subst (λ (j : Kind). AllPassed j m e → P (done_by j m e).outcome.answer (left (done_by j m e))) (sym z ∙ y) done p)

-- and an accepted one
pub accepted_by : (P : Answer → Machine → Type 0) (k : Kind) (m : Machine) (e : Event) → kind_of e.kind ≡ k → is_refused (answer_to m e) ≡ false
    → (AllPassed k m e → P (done_by k m e).outcome.answer (left (done_by k m e))) → P (answer_to m e) (after m e)
accepted_by P k m e z accepted done =
    by_kind (λ answer next. is_refused answer ≡ false → P answer next) k m e z (λ n r. absurd (true≢false r)) (λ p r. done p) accepted

-- ---- kinds 3 to 9 leave the set-up, who is selected and the owner, and their answers are no refusals

pub record Stays (d : Drive) (o : Outcome) : Type 0 where
  pub setup : o.drive.setup ≡ d.setup
  pub selected : o.drive.holding.selected ≡ d.holding.selected
  pub owner : o.drive.holding.owner ≡ d.holding.owner
  pub answered : is_refused o.answer ≡ false

as_it_was_lem : {d : Drive} {o : Outcome} → o.drive.setup ≡ d.setup → o.drive.holding ≡ d.holding → is_refused o.answer ≡ false → Stays d o
as_it_was_lem s h a = record { setup = s; selected = ap (λ (x : Holding). x.selected) h; owner = ap (λ (x : Holding). x.owner) h; answered = a }

function_stays : {d at : Drive} {f : Function} → Outcomes.FunctionDone d f at → Stays d (told (Status Normal) at)
unfolding reserved unreserved priority_reserved
function_stays Outcomes.prioritised = record { setup = refl; selected = refl; owner = refl; answered = refl }
function_stays Outcomes.reserves = record { setup = refl; selected = refl; owner = refl; answered = refl }
function_stays Outcomes.releases = record { setup = refl; selected = refl; owner = refl; answered = refl }
function_stays Outcomes.idles = as_it_was_lem refl refl refl
function_stays Outcomes.recalibrates = as_it_was_lem refl refl refl

exchange_stays : {d : Drive} {e : Event} {work : Work} {o : Outcome} → Outcomes.Exchanged d e work o → Stays d o
unfolding posted_on closed status_cleared
exchange_stays (Outcomes.kept z) = as_it_was_lem refl refl refl
exchange_stays (Outcomes.obeys (Outcomes.by_function z q f)) =
    let s = function_stays f in record { setup = s.setup; selected = s.selected; owner = s.owner; answered = refl }
exchange_stays (Outcomes.obeys (Outcomes.by_seek z p t)) = as_it_was_lem refl refl refl
exchange_stays (Outcomes.disobeys b) = as_it_was_lem refl refl refl
exchange_stays (Outcomes.tells z) = as_it_was_lem refl refl refl
exchange_stays {d} {e} (Outcomes.tells_last z) = either (λ (at : Drive). Stays d (told (LastWord (Outcomes.response_at d e.port)) at)) _ (as_it_was_lem refl refl refl) (as_it_was_lem refl refl refl)
exchange_stays Outcomes.cut = as_it_was_lem refl refl refl

asked_stays : {d : Drive} {e : Event} {work : Work} {o : Outcome} → Outcomes.Asked d e work o → Stays d o
unfolding posted_on head_stepped at_its_target ended
asked_stays (Outcomes.bad q b) = as_it_was_lem refl refl refl
asked_stays (Outcomes.stepped k) = as_it_was_lem refl refl refl
asked_stays (Outcomes.nothing_to_come (Outcomes.in_place a) w) = as_it_was_lem refl refl refl
asked_stays (Outcomes.nothing_to_come (Outcomes.at_target a t) w) = as_it_was_lem refl refl refl
asked_stays (Outcomes.opens (Outcomes.in_place a) o z) = as_it_was_lem refl refl refl
asked_stays (Outcomes.opens (Outcomes.at_target a t) o z) = as_it_was_lem refl refl refl
asked_stays (Outcomes.placed p) = as_it_was_lem refl refl refl
asked_stays (Outcomes.aimed t) = as_it_was_lem refl refl refl

quiet_stays : {d : Drive} {e : Event} {sectors : List ℕ} {work : Work} {o : Outcome} → Outcomes.Quiet d e sectors work o → Stays d o
unfolding posted_on octet2_cleared ended
quiet_stays (Outcomes.unsolicited q z) = as_it_was_lem refl refl refl
quiet_stays (Outcomes.asked (Outcomes.afresh c z) x) = let s = asked_stays x in record { setup = s.setup; selected = s.selected; owner = s.owner; answered = s.answered }
quiet_stays (Outcomes.asked (Outcomes.as_it_was z) x) = asked_stays x
quiet_stays (Outcomes.taken_last high) = as_it_was_lem refl refl refl
quiet_stays (Outcomes.taken high z) = as_it_was_lem refl refl refl
quiet_stays (Outcomes.ends high) = as_it_was_lem refl refl refl
quiet_stays (Outcomes.exchanged low x) = exchange_stays x
quiet_stays Outcomes.status_told = as_it_was_lem refl refl refl

work_stays : {d : Drive} {e : Event} {sectors staging : List ℕ} {work : Work} {r : Result} → Outcomes.WorkDone d e sectors staging work r → Stays d r.outcome
unfolding ended
work_stays (Outcomes.quiet q) = quiet_stays q
work_stays (Outcomes.miscompared high) = as_it_was_lem refl refl refl
work_stays (Outcomes.completed high z) = as_it_was_lem refl refl refl
work_stays (Outcomes.more high z) = as_it_was_lem refl refl refl

pub stays : (work : Work) (m : Machine) (e : Event) → Stays m.drive (done_by (Use work) m e).outcome
stays work m e = work_stays (Outcomes.work_done m.drive e m.sectors m.staging work)

-- ---- a refused event changes nothing

pub accepts : (k : Kind) (m : Machine) (e : Event) → is_refused (done_by k m e).outcome.answer ≡ false
accepts Select m e = refl
accepts Deselect m e = refl
accepts Reset m e = refl
accepts Unknown m e = refl
accepts (Use work) m e = (stays work m e).answered

pub refused_changes_nothing : (m : Machine) (e : Event) → is_refused (answer_to m e) ≡ true → after m e ≡ m
refused_changes_nothing m e =
    by_cases (λ answer next. is_refused answer ≡ true → next ≡ m) m e
    (λ n z refused. refl)
    (λ k z p refused. absurd (false≢true (sym (accepts k m e) ∙ refused)))

-- ---- how an accepted event moves the selected port

pub data Move (selected : ℕ) (e : Event) (next : ℕ) : Type 0 where
  selects : kind_of e.kind ≡ Select → (selected ≡ e.port → ⊥) → next ≡ e.port → Move selected e next
  deselects : kind_of e.kind ≡ Deselect → selected ≡ e.port → e.port < nobody → next ≡ nobody → Move selected e next
  works : (work : Work) → kind_of e.kind ≡ Use work → selected ≡ e.port → e.port < nobody → next ≡ selected → Move selected e next
  resets : kind_of e.kind ≡ Reset → next ≡ nobody → Move selected e next

abbrev pub selected_on : Machine → ℕ
selected_on m = m.drive.holding.selected

-- row 2 passed
pub its_own : (m : Machine) (e : Event) → not (eqb (selected_on m) e.port) ≡ false → selected_on m ≡ e.port
its_own m e p = eqb-true (selected_on m) e.port (not-false (eqb (selected_on m) e.port) p)

nobody_after : (hold : Hold) (owner : ℕ) → (released_from hold owner).selected ≡ nobody
nobody_after None owner = refl
nobody_after Plain owner = refl
nobody_after Strong owner = refl

move_by : (k : Kind) (m : Machine) (e : Event) → kind_of e.kind ≡ k → AllPassed k m e → Move (selected_on m) e (selected_on (left (done_by k m e)))
unfolding selected granted_to deselected released after_reset
move_by Select m e z p = selects z (eqb-false (selected_on m) e.port p.own.0) refl
move_by Deselect m e z p =
    deselects z (its_own m e p.own.0) (omega (arith, ltb-false 1 e.port p.port)) (nobody_after m.drive.holding.hold m.drive.holding.owner)
move_by (Use work) m e z p =
    works work z (its_own m e p.own.0) (omega (arith, ltb-false 1 e.port p.port)) (stays work m e).selected
move_by Reset m e z p = resets z refl
move_by Unknown m e z p = absurd (true≢false p.formed)

pub move : (m : Machine) (e : Event) → is_refused (answer_to m e) ≡ false → Move (selected_on m) e (selected_on (after m e))
move m e =
    by_cases (λ answer next. is_refused answer ≡ false → Move (selected_on m) e (selected_on next)) m e
    (λ n z accepted. absurd (true≢false accepted))
    (λ k z p accepted. move_by k m e z p)
