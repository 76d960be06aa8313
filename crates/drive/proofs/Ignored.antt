-- A request that octet 1 stops is answered C and changes nothing; one that it does not stop leaves its own bit or none, whatever stood in octet 2.
-- Assumes nothing.
use Prim.Native.Nat.{ℕ}
use mathlib.Core.Path.{◌≡◌, refl, sym, ap, ◌∙◌}
use mathlib.Core.Bool.{false, true≢false}
use mathlib.Core.List.{List}
use borrow.Author.Tests.{eq-eqb, ne_eqb, ltb-false}
use Rattle.laws.specs.Pick.{pick}
use Rattle.status.specs.declared.drive_status.DriveStatus.TheVariants.{UnsolicitedException}
use Rattle.parts.specs.Control.{control_of}
use Rattle.parts.specs.Kind.{kind_of, word_of, place_of}
use Rattle.parts.specs.declared.kind.Kind.{Kind}
use Rattle.parts.specs.declared.kind.Kind.TheVariants.{Use}
use Rattle.parts.specs.declared.kind.Work.{Work}
use Rattle.parts.specs.declared.kind.Work.TheVariants.{DataControl, Position, Target}
use Rattle.parts.specs.declared.event.Event.{Event}
use Rattle.parts.specs.declared.pending.Pending.{Pending}
use Rattle.drive.specs.State.{pending_on, posted_on, told, Result, result}
use Rattle.drive.specs.Request.{octet2_cleared, taken_up, controlled, placed, aimed, data_control, positioned, targeted}
use Rattle.drive.specs.Refusal.{row7}
use Rattle.drive.specs.Accepted.{is_refused}
use Rattle.drive.specs.Frame.{ClearsFirst, control, position, target, RequestLeaves}
use Rattle.drive.specs.Power.{at_rest}
use Rattle.drive.specs.Run.{Machine, machine, answer_to, after, final}
use Rattle.drive.specs.Ignored.{Stopped, cleared_on, Judged, Ignored}
use Rattle.drive.specs.declared.drive.Drive.{Drive}
use Rattle.drive.specs.declared.answer.Answer.{Answer}
use Rattle.drive.specs.declared.answer.Answer.TheVariants.{Status}
use Rattle.drive.specs.declared.answer.Outcome.{Outcome}
use Rattle.drive.proofs.Laws.{accepted_by, done_by, left, AllPassed, its_own}
use Rattle.drive.proofs.Sound.{sound, unsound}
use Rattle.drive.proofs.StaysSound.{cleared_passable}
use Rattle.drive.proofs.SoundPlace.{octet2_kept}
use Rattle.drive.proofs.Cleared.{nothing_to_clear, nothing_left_lem}
use Rattle.drive.proofs.Pendings.{asked_left}
use Rattle.drive.proofs.Posted.{on_either}
use Rattle.drive.proofs.NeverDead.{Does, work_does}
use Rattle.drive.proofs.OneFault.{Few, one_from_rest}
use Rattle.drive.proofs.Outcomes

-- what such an event asks of the drive that it finds
request : {e : Event} {k : Kind} → ClearsFirst e k → Drive → Outcome
request {e} (control n) d = controlled (control_of e.a0) d e.port e.a0
request {e} position d = placed d e.port (place_of e)
request {e} target d = aimed d e.port (word_of e)

request_done : {e : Event} {k : Kind} (q : ClearsFirst e k) (m : Machine)
    → done_by k m e ≡ result (taken_up m.drive e.port (request q)) m.sectors m.staging
unfolding request data_control positioned targeted pick
request_done (control n) m = rw n
request_done position m = refl
request_done target m = refl

-- ---- stopped

stops : (d : Drive) (port : ℕ) (ask : Drive → Outcome) → ((pending_on d port).octet1 ≡ 0 → ⊥) → taken_up d port ask ≡ told (Status UnsolicitedException) d
unfolding pick
stops d port ask h = rw (ne_eqb (pending_on d port).octet1 0 h)

stopped : (m : Machine) (e : Event) → ClearsFirst e (kind_of e.kind) → is_refused (answer_to m e) ≡ false → ((pending_on m.drive e.port).octet1 ≡ 0 → ⊥) → Stopped m e
stopped m e q a h =
    let done = request_done q m ∙ ap (λ (o : Outcome). result o m.sectors m.staging) (stops m.drive e.port (request q) h) in
    let both = accepted_by (λ answer next. (answer ≡ Status UnsolicitedException) × (next ≡ m)) (kind_of e.kind) m e refl a
    (λ p. (ap (λ (r : Result). r.outcome.answer) done, ap left done)) in
    record { answered = both.0; unchanged = both.1 }

-- ---- taken up

-- words, takes and End are no requests
no_exchange : {d : Drive} {e : Event} {work : Work} {o : Outcome} → ClearsFirst e (Use work) → Outcomes.Exchanged d e work o → ⊥
no_exchange (control n) x = elim x [ ]
no_exchange position x = elim x [ ]
no_exchange target x = elim x [ ]

quiet_clears : {d : Drive} {e : Event} {sectors : List ℕ} {work : Work} {o : Outcome} → ClearsFirst e (Use work) → (pending_on d e.port).octet1 ≡ 0
    → Outcomes.Quiet d e sectors work o → RequestLeaves o.answer (pending_on o.drive e.port)
quiet_clears q h (Outcomes.unsolicited r z) = absurd (true≢false (sym (eq-eqb _ 0 h) ∙ z))
quiet_clears {d} {e} q h (Outcomes.asked (Outcomes.afresh r y) x) = asked_left (nothing_left_lem d e.port h) x
quiet_clears q h (Outcomes.asked (Outcomes.as_it_was y) x) = absurd (Outcomes.not_for_status q y)
quiet_clears q h (Outcomes.exchanged low x) = absurd (no_exchange q x)
quiet_clears q h (Outcomes.taken_last z) = elim q [ ]
quiet_clears q h (Outcomes.taken x z) = elim q [ ]
quiet_clears q h (Outcomes.ends z) = elim q [ ]
quiet_clears q h Outcomes.status_told = elim q [ ]

work_clears : {d : Drive} {e : Event} {sectors staging : List ℕ} {work : Work} {r : Result} → ClearsFirst e (Use work) → (pending_on d e.port).octet1 ≡ 0
    → Outcomes.WorkDone d e sectors staging work r → RequestLeaves r.outcome.answer (pending_on r.outcome.drive e.port)
work_clears q h (Outcomes.quiet x) = quiet_clears q h x
work_clears q h (Outcomes.miscompared z) = elim q [ ]
work_clears q h (Outcomes.completed y z) = elim q [ ]
work_clears q h (Outcomes.more y z) = elim q [ ]

kind_clears : (m : Machine) (e : Event) {k : Kind} → ClearsFirst e k → (pending_on m.drive e.port).octet1 ≡ 0
    → RequestLeaves (done_by k m e).outcome.answer (pending_on (done_by k m e).outcome.drive e.port)
kind_clears m e (control n) h = work_clears (control n) h (Outcomes.work_done m.drive e m.sectors m.staging DataControl)
kind_clears m e position h = work_clears position h (Outcomes.work_done m.drive e m.sectors m.staging Position)
kind_clears m e target h = work_clears target h (Outcomes.work_done m.drive e m.sectors m.staging Target)

-- to clear what is cleared makes no difference
cleared_again : (d : Drive) (port : ℕ) (ask : Drive → Outcome) → (pending_on d port).octet1 ≡ 0 → taken_up (octet2_cleared d port) port ask ≡ taken_up d port ask
unfolding pick
cleared_again d port ask h =
    let none = nothing_left_lem d port h in
    rw (eq-eqb (pending_on d port).octet1 0 h, eq-eqb (pending_on (octet2_cleared d port) port).octet1 0 (ap (λ (p : Pending). p.octet1) none), nothing_to_clear (octet2_cleared d port) port (ap (λ (p : Pending). p.octet2) none))

module _ (m : Machine) (e : Event) where
  -- with octet 2 cleared it is accepted too
  work_again : (work : Work) → kind_of e.kind ≡ Use work → AllPassed (Use work) m e → row7 work (octet2_cleared m.drive e.port) ≡ false
      → Does (cleared_on m e.port) e (done_by (Use work) (cleared_on m e.port) e)
  unfolding octet2_cleared posted_on
  work_again work z p timely =
      work_does work (cleared_passable e.port (record { sound = p.sound; room = p.room })) (ltb-false 1 e.port p.port) z p.formed (its_own m e p.own.0) timely refl

  cleared_does : {k : Kind} → ClearsFirst e k → kind_of e.kind ≡ k → AllPassed k m e → Does (cleared_on m e.port) e (done_by k (cleared_on m e.port) e)
  unfolding octet2_cleared posted_on
  cleared_does (control n) z p = work_again DataControl z p p.own.1.0
  cleared_does position z p = work_again Position z p p.own.1.0
  cleared_does target z p = work_again Target z p p.own.1.0

  same_done : {k : Kind} → ClearsFirst e k → (pending_on m.drive e.port).octet1 ≡ 0 → done_by k (cleared_on m e.port) e ≡ done_by k m e
  same_done q h =
      request_done q (cleared_on m e.port)
      ∙ ap (λ (o : Outcome). result o m.sectors m.staging) (cleared_again m.drive e.port (request q) h)
      ∙ sym (request_done q m)

  -- what is said of a request that is taken up, of its answer and the machine after it
  record Told (answer : Answer) (next : Machine) : Type 0 where
    leaves : RequestLeaves answer (pending_on next.drive e.port)
    same_answer : answer ≡ answer_to (cleared_on m e.port) e
    same_end : next ≡ after (cleared_on m e.port) e

  clears_first : ClearsFirst e (kind_of e.kind) → is_refused (answer_to m e) ≡ false → (pending_on m.drive e.port).octet1 ≡ 0 → Judged m e
  clears_first q a h =
      let same = same_done q h in
      let all = accepted_by Told (kind_of e.kind) m e refl a
      (λ p. let does = cleared_does q refl p in
      record {
        leaves = kind_clears m e q h;
        same_answer = ap (λ (r : Result). r.outcome.answer) (sym same) ∙ sym does.answer;
        same_end = ap left (sym same) ∙ sym does.next;
      }) in
      record { leaves = all.leaves; same_answer = all.same_answer; same_end = all.same_end }

pub ignored : Ignored
ignored =
    record {
      stopped = stopped;
      clears_first = clears_first;
      one_fault_at_a_time = λ s sectors staging events port.
          on_either Few (final (machine (at_rest s) sectors staging) events).drive port (one_from_rest s sectors staging events).few;
      several_stay_legal = λ d port octet2 s b h. unsound _ (octet2_kept port octet2 (sound d s) h);
    }
