-- What is pending changes by a bit more, by a cleared octet 2, by a read status and by a reset alone: what these keep, every event keeps on both ports.
-- Assumes nothing.
use Prim.Native.Nat.{ℕ}
use mathlib.Core.List.{List}
use Rattle.laws.proofs.Pick.{either}
use Rattle.parts.specs.Pending.{OneBit, reset_complete, pending_of, nothing_pending, noticed, faulted}
use Rattle.parts.specs.declared.kind.Kind.{Kind}
use Rattle.parts.specs.declared.kind.Kind.TheVariants.{Select, Deselect, Use, Reset, Unknown}
use Rattle.parts.specs.declared.kind.Work.{Work}
use Rattle.parts.specs.declared.event.Event.{Event}
use Rattle.parts.specs.declared.pending.Pending.{Pending}
use Rattle.drive.specs.State.{Result, pending_on, posted_on}
use Rattle.parts.specs.declared.command.Function.{Function}
use Rattle.drive.specs.Drive.{owner_noticed, selected, deselected, after_reset, reserved, unreserved, priority_reserved, head_stepped, at_its_target, closed, ended}
use Rattle.drive.specs.Request.{octet2_cleared}
use Rattle.drive.specs.Command.{status_cleared}
use Rattle.drive.specs.Run.{Machine, after}
use Rattle.drive.specs.declared.drive.Drive.{Drive}
use Rattle.drive.specs.declared.answer.Outcome.{Outcome}
use Rattle.drive.proofs.Laws.{by_cases, done_by}
use Rattle.drive.proofs.Outcomes

-- a property of what is pending on a port that every posting keeps
pub record Postable (P : Pending → Type 0) : Type 0 where
  pub nothing : P nothing_pending
  pub reset : P (pending_of reset_complete 0)
  pub notice : (p : Pending) → P p → P (noticed p)
  pub fault : {bit : ℕ} (p : Pending) → OneBit bit → P p → P (faulted p bit)
  pub clear : (p : Pending) → P p → P (pending_of p.octet1 0)

abbrev pub OnBoth : (Pending → Type 0) → Drive → Type 0
OnBoth P d = P d.pending0 × P d.pending1

pub on_either : (P : Pending → Type 0) (d : Drive) (port : ℕ) → OnBoth P d → P (pending_on d port)
unfolding pending_on
on_either P d port o = either P _ o.0 o.1

pub posted_on_lem : (P : Pending → Type 0) (d : Drive) (port : ℕ) (p : Pending) → OnBoth P d → P p → OnBoth P (posted_on d port p)
unfolding posted_on
posted_on_lem P d port p o h = (either P _ h o.0, either P _ o.1 h)

module _ (P : Pending → Type 0) (q : Postable P) where
  sought : {d at : Drive} {c : ℕ} → Outcomes.Sought d c at → OnBoth P d → OnBoth P at
  unfolding at_its_target
  sought (Outcomes.in_place a) o = o
  sought (Outcomes.at_target a z) o = o

  function_keeps : {d at : Drive} {f : Function} → OnBoth P d → Outcomes.FunctionDone d f at → OnBoth P at
  unfolding reserved unreserved priority_reserved
  function_keeps o Outcomes.prioritised = o
  function_keeps o Outcomes.reserves = o
  function_keeps o Outcomes.releases = o
  function_keeps o Outcomes.idles = o
  function_keeps o Outcomes.recalibrates = o

  exchange_keeps : {d : Drive} {e : Event} {work : Work} {o : Outcome} → OnBoth P d → Outcomes.Exchanged d e work o → OnBoth P o.drive
  unfolding closed status_cleared
  exchange_keeps o (Outcomes.kept z) = o
  exchange_keeps o (Outcomes.obeys (Outcomes.by_function z r f)) = function_keeps o f
  exchange_keeps o (Outcomes.obeys (Outcomes.by_seek z i j)) = o
  exchange_keeps {d} {e} o (Outcomes.disobeys b) = posted_on_lem P (closed d) e.port _ o (q.fault _ (Outcomes.its_bit b) (on_either P (closed d) e.port o))
  exchange_keeps o (Outcomes.tells z) = o
  exchange_keeps {d} {e} o (Outcomes.tells_last z) = either (OnBoth P) _ (posted_on_lem P (closed d) e.port nothing_pending o q.nothing) o
  exchange_keeps o Outcomes.cut = o

  asked_keeps : {d : Drive} {e : Event} {work : Work} {o : Outcome} → OnBoth P d → Outcomes.Asked d e work o → OnBoth P o.drive
  unfolding head_stepped ended
  asked_keeps {d} {e} o (Outcomes.bad r b) = posted_on_lem P d e.port _ o (q.fault _ b (on_either P d e.port o))
  asked_keeps o (Outcomes.stepped k) = o
  asked_keeps o (Outcomes.nothing_to_come s w) = sought s o
  asked_keeps o (Outcomes.opens s c z) = sought s o
  asked_keeps o (Outcomes.placed h) = o
  asked_keeps o (Outcomes.aimed h) = o

  heard_keeps : {d : Drive} {e : Event} {at : Drive} {work : Work} → OnBoth P d → Outcomes.Heard d e work at → OnBoth P at
  unfolding octet2_cleared
  heard_keeps {d} {e = e} o (Outcomes.afresh c z) = posted_on_lem P d e.port _ o (q.clear _ (on_either P d e.port o))
  heard_keeps o (Outcomes.as_it_was z) = o

  quiet_keeps : {d : Drive} {e : Event} {sectors : List ℕ} {work : Work} {o : Outcome} → OnBoth P d → Outcomes.Quiet d e sectors work o → OnBoth P o.drive
  unfolding ended
  quiet_keeps o (Outcomes.unsolicited r z) = o
  quiet_keeps o (Outcomes.asked h x) = asked_keeps (heard_keeps o h) x
  quiet_keeps o (Outcomes.taken_last high) = o
  quiet_keeps o (Outcomes.taken high z) = o
  quiet_keeps o (Outcomes.ends high) = o
  quiet_keeps o (Outcomes.exchanged low x) = exchange_keeps o x
  quiet_keeps {d} {e} o Outcomes.status_told = posted_on_lem P d e.port nothing_pending o q.nothing

  work_keeps : {d : Drive} {e : Event} {sectors staging : List ℕ} {work : Work} {r : Result} → OnBoth P d → Outcomes.WorkDone d e sectors staging work r
      → OnBoth P r.outcome.drive
  unfolding ended
  work_keeps o (Outcomes.quiet w) = quiet_keeps o w
  work_keeps o (Outcomes.miscompared high) = o
  work_keeps o (Outcomes.completed high z) = o
  work_keeps o (Outcomes.more high z) = o

  notice_keeps : (d : Drive) (port : ℕ) → OnBoth P d → OnBoth P (owner_noticed d port)
  unfolding owner_noticed
  notice_keeps d port o = either (OnBoth P) _ (posted_on_lem P d d.holding.owner _ o (q.notice _ (on_either P d d.holding.owner o))) o

  kind_keeps : (k : Kind) (m : Machine) (e : Event) → OnBoth P m.drive → OnBoth P (done_by k m e).outcome.drive
  unfolding selected deselected after_reset
  kind_keeps Select m e o = notice_keeps m.drive e.port o
  kind_keeps Deselect m e o = o
  kind_keeps Reset m e o = (q.reset, q.reset)
  kind_keeps Unknown m e o = o
  kind_keeps (Use work) m e o = work_keeps o (Outcomes.work_done m.drive e m.sectors m.staging work)

  pub kept_on_both : (m : Machine) (e : Event) → OnBoth P m.drive → OnBoth P (after m e).drive
  kept_on_both m e o = by_cases (λ answer next. OnBoth P next.drive) m e (λ n z. o) (λ k z p. kind_keeps k m e o)
