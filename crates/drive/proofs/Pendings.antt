-- What every event leaves pending on a port.
-- Assumes nothing.
use Prim.Native.Nat.{ℕ, ◌+◌, ◌≤◌}
use mathlib.Core.Path.{◌≡◌, refl, sym, ap, subst, ◌∙◌}
use mathlib.Core.Bool.{Bool, true, false, not}
use mathlib.Core.Logic.{◌⊎◌, inl, inr}
use native.Mathlib.Omega.{arith}
use borrow.Author.Tests.{eqb-true, eqb-false, ltb-false, not-true}
use lib.Dec.{eqb, ltb}
use Rattle.laws.specs.Pick.{pick}
use Rattle.laws.proofs.Pick.{cases}
use Rattle.laws.proofs.Tests.{and_l}
use Rattle.parts.specs.Holding.{nobody, is_owned_by_other}
use Rattle.parts.specs.Pending.{OneBit, bit7, bit6, bit5, bit4, with_bit, pending_of, noticed, faulted, nothing_pending}
use Rattle.parts.specs.Kind.{kind_of}
use Rattle.parts.specs.declared.kind.Kind.{Kind}
use Rattle.parts.specs.declared.kind.Kind.TheVariants.{Select, Deselect, Use, Reset, Unknown}
use Rattle.parts.specs.declared.kind.Work.{Work}
use Rattle.parts.specs.Command.{read_status, parameter_words}
use Rattle.parts.specs.Control.{words_to_come}
use Rattle.parts.specs.declared.command.Function.{Function}
use Rattle.parts.specs.declared.setup.Setup.{Setup}
use Rattle.parts.specs.declared.holding.Holding.{Holding}
use Rattle.drive.specs.State.{Result, pending_on, posted_on}
use Rattle.drive.specs.Drive.{owner_noticed, selected, deselected, after_reset, reserved, unreserved, priority_reserved, head_stepped, at_its_target, closed, ended}
use Rattle.drive.specs.Request.{octet2_cleared}
use Rattle.drive.specs.Command.{status_cleared}
use Rattle.drive.specs.Frame.{RequestLeaves, opening, bad, PendingFrame, as_before, by_takeover, by_command, by_request, by_status, by_last_word, by_reset}
use Rattle.drive.specs.Frame as frame
use Rattle.drive.specs.Run.{Machine}
use Rattle.parts.specs.declared.event.Event.{Event}
use Rattle.parts.specs.declared.pending.Pending.{Pending}
use Rattle.drive.specs.declared.answer.Answer.{Answer}
use Rattle.drive.specs.declared.answer.Answer.TheVariants.{Done, LastWord}
use Rattle.drive.specs.declared.answer.Outcome.{Outcome}
use Rattle.drive.specs.declared.drive.Drive.{Drive}
use Rattle.drive.proofs.Laws.{AllPassed, done_by}
use Rattle.drive.proofs.Sound.{sound}
use Rattle.drive.proofs.Cleared.{posted_there, posted_elsewhere, same_or_other, nothing_left_lem}
use Rattle.drive.proofs.Outcomes

-- a request leaves its own bit if it is bad, and the other port's as it was
alone : {bit : ℕ} → OneBit bit → faulted nothing_pending bit ≡ pending_of 0 bit
unfolding faulted with_bit pick
alone bit7 = refl
alone bit6 = refl
alone bit5 = refl
alone bit4 = refl

pub asked_left : {d : Drive} {e : Event} {work : Work} {o : Outcome} → pending_on d e.port ≡ nothing_pending → Outcomes.Asked d e work o
    → RequestLeaves o.answer (pending_on o.drive e.port)
unfolding pending_on head_stepped at_its_target ended
asked_left {d} {e} h (Outcomes.bad {bit = bit} q b) = rw (posted_there d e.port (faulted (pending_on d e.port) bit), h, alone b) (bad b)
asked_left h (Outcomes.stepped k) = rw h frame.good
asked_left h (Outcomes.nothing_to_come (Outcomes.in_place a) w) = rw h frame.good
asked_left h (Outcomes.nothing_to_come (Outcomes.at_target a t) w) = rw h frame.good
asked_left h (Outcomes.opens (Outcomes.in_place a) o y) = rw h opening
asked_left h (Outcomes.opens (Outcomes.at_target a t) o y) = rw h opening
asked_left h (Outcomes.placed p) = rw h frame.good
asked_left h (Outcomes.aimed t) = rw h frame.good

asked_elsewhere : {d : Drive} {e : Event} {work : Work} {o : Outcome} (port : ℕ)
    → (frame.ClearsFirst e (Use work) → (new : Pending) → pending_on (posted_on d e.port new) port ≡ pending_on d port) → Outcomes.Asked d e work o
    → pending_on o.drive port ≡ pending_on d port
unfolding pending_on head_stepped at_its_target ended
asked_elsewhere port z (Outcomes.bad q b) = z q _
asked_elsewhere port z (Outcomes.stepped k) = refl
asked_elsewhere port z (Outcomes.nothing_to_come (Outcomes.in_place a) w) = refl
asked_elsewhere port z (Outcomes.nothing_to_come (Outcomes.at_target a t) w) = refl
asked_elsewhere port z (Outcomes.opens (Outcomes.in_place a) o y) = refl
asked_elsewhere port z (Outcomes.opens (Outcomes.at_target a t) o y) = refl
asked_elsewhere port z (Outcomes.placed p) = refl
asked_elsewhere port z (Outcomes.aimed t) = refl

-- a function touches nothing that is pending
function_left : {d at : Drive} {f : Function} (port : ℕ) → Outcomes.FunctionDone d f at → pending_on at port ≡ pending_on d port
unfolding pending_on reserved unreserved priority_reserved
function_left port Outcomes.prioritised = refl
function_left port Outcomes.reserves = refl
function_left port Outcomes.releases = refl
function_left port Outcomes.idles = refl
function_left port Outcomes.recalibrates = refl

four_words : (s : Setup) (c moved : ℕ) → eqb c read_status ≡ true → eqb (moved + 1) (words_to_come s c) ≡ true → moved + 1 ≡ 4
unfolding words_to_come parameter_words pick
four_words s c moved z last = eqb-true (moved + 1) 4 (rw (eqb-true c read_status z) at last)

-- another owner is a port
owner_port : (h : Holding) (port : ℕ) → ltb nobody h.owner ≡ false → is_owned_by_other h port ≡ true → h.owner ≤ 1
owner_port h port known other =
    let somebody = not-true (eqb h.owner nobody) (and_l (not (eqb h.owner nobody)) (not (eqb h.owner port)) other) in
    omega (arith, ltb-false nobody h.owner known, eqb-false h.owner nobody somebody)

either_port : (asked : Bool) (p : Pending) → pick asked p p ≡ p
unfolding pick
either_port true p = refl
either_port false p = refl

module _ (m : Machine) (e : Event) (port : ℕ) (real : port ≤ 1) where
  abbrev Framed : Outcome → Type 0
  Framed o = PendingFrame m e port o.answer (pending_on o.drive port)

  -- what is posted on a port is the answer for that one, and the other's is as before
  posted_framed : {answer : Answer} (d : Drive) (to : ℕ) (new : Pending) → pending_on d port ≡ pending_on m.drive port → to ≤ 1
      → (port ≡ to → PendingFrame m e port answer new) → PendingFrame m e port answer (pending_on (posted_on d to new) port)
  posted_framed {answer} d to new same real' there = by_port (same_or_other port to real real')
    where
      by_port : (port ≡ to) ⊎ (eqb port 0 ≡ not (eqb to 0)) → PendingFrame m e port answer (pending_on (posted_on d to new) port)
      by_port (inl z) = subst (PendingFrame m e port answer) (sym (ap (pending_on (posted_on d to new)) z ∙ posted_there d to new)) (there z)
      by_port (inr z) = as_before (posted_elsewhere d to port new z ∙ same)

  exchange_left : {work : Work} {o : Outcome} → kind_of e.kind ≡ Use work → e.port ≤ 1 → Outcomes.Exchanged m.drive e work o → Framed o
  unfolding pending_on closed status_cleared
  exchange_left z own (Outcomes.kept y) = as_before refl
  exchange_left z own (Outcomes.obeys (Outcomes.by_function y q f)) = as_before (function_left port f)
  exchange_left z own (Outcomes.obeys (Outcomes.by_seek y i j)) = as_before refl
  exchange_left z own (Outcomes.disobeys {bit = bit} b) =
      posted_framed (closed m.drive) e.port _ refl own
      (λ p. by_command z p refl (Outcomes.its_bit b) (ap (λ (n : ℕ). faulted (pending_on m.drive n) bit) (sym p)))
  exchange_left z own (Outcomes.tells y) = as_before refl
  exchange_left z own (Outcomes.tells_last y) =
      cases (λ (d : Drive). PendingFrame m e port (LastWord (Outcomes.response_at m.drive e.port)) (pending_on d port)) (eqb m.drive.transfer.control read_status)
      (λ s. posted_framed (closed m.drive) e.port nothing_pending refl own
      (λ p. by_last_word z (eqb-true _ read_status s) (four_words m.drive.setup _ m.drive.transfer.moved s y) p refl))
      (λ s. as_before refl)
  exchange_left z own Outcomes.cut = as_before refl

  -- a request that is taken up: its own port's is what it leaves, the other's is as before
  asked_framed : {work : Work} {o : Outcome} → kind_of e.kind ≡ Use work → e.port ≤ 1 → frame.ClearsFirst e (Use work)
      → eqb (pending_on m.drive e.port).octet1 0 ≡ true → Outcomes.Asked (octet2_cleared m.drive e.port) e work o → Framed o
  unfolding octet2_cleared
  asked_framed {o = o} z own q y x = by_port (same_or_other port e.port real own)
    where
      quiet : (pending_on m.drive e.port).octet1 ≡ 0
      quiet = eqb-true _ 0 y

      by_port : (port ≡ e.port) ⊎ (eqb port 0 ≡ not (eqb e.port 0)) → Framed o
      by_port (inl p) = by_request (rw z q) p (rw p quiet) (rw p (asked_left (nothing_left_lem m.drive e.port quiet) x))
      by_port (inr p) =
          as_before (asked_elsewhere port (λ r new. posted_elsewhere _ e.port port new p) x ∙ posted_elsewhere m.drive e.port port _ p)

  quiet_left : {work : Work} {o : Outcome} → kind_of e.kind ≡ Use work → e.port ≤ 1 → Outcomes.Quiet m.drive e m.sectors work o → Framed o
  unfolding pending_on at_its_target ended
  quiet_left z own (Outcomes.unsolicited q y) = as_before refl
  quiet_left z own (Outcomes.asked (Outcomes.afresh q y) x) = asked_framed z own q y x
  quiet_left z own (Outcomes.asked (Outcomes.as_it_was y) x) = as_before (asked_elsewhere port (λ q new. absurd (Outcomes.not_for_status q y)) x)
  quiet_left z own (Outcomes.taken_last high) = as_before refl
  quiet_left z own (Outcomes.taken high y) = as_before refl
  quiet_left z own (Outcomes.ends high) = as_before refl
  quiet_left z own (Outcomes.exchanged low x) = exchange_left z own x
  quiet_left z own Outcomes.status_told = posted_framed m.drive e.port nothing_pending refl own (λ p. by_status z p refl)

  work_left : {work : Work} {r : Result} → kind_of e.kind ≡ Use work → e.port ≤ 1 → Outcomes.WorkDone m.drive e m.sectors m.staging work r
      → Framed r.outcome
  unfolding pending_on ended
  work_left z own (Outcomes.quiet q) = quiet_left z own q
  work_left z own (Outcomes.miscompared high) = as_before refl
  work_left z own (Outcomes.completed high h) = as_before refl
  work_left z own (Outcomes.more high h) = as_before refl

  pub pending_by : (k : Kind) → kind_of e.kind ≡ k → AllPassed k m e → Framed (done_by k m e).outcome
  unfolding pending_on selected owner_noticed deselected after_reset
  pending_by Select z p =
      let d = m.drive in
      let owner = d.holding.owner in
      cases (λ (x : Drive). PendingFrame m e port Done (pending_on x port)) (is_owned_by_other d.holding e.port)
      (λ t. posted_framed d owner (noticed (pending_on d owner)) refl (owner_port d.holding e.port (sound d p.sound).owner t)
      (λ q. by_takeover z t q (ap (λ (n : ℕ). noticed (pending_on d n)) (sym q))))
      (λ t. as_before refl)
  pending_by Deselect z p = as_before refl
  pending_by Reset z p = by_reset z (either_port (eqb port 0) _)
  pending_by Unknown z p = as_before refl
  pending_by (Use work) z p = work_left z (ltb-false 1 e.port p.port) (Outcomes.work_done m.drive e m.sectors m.staging work)
