-- A write cut short at any word writes nothing: while its words come no sector word changes but at the last, and where no write is open none does.
-- Assumes nothing.
use Prim.Native.Nat.{ℕ, suc, ◌+◌, ◌<◌}
use mathlib.Core.Path.{◌≡◌, refl, sym, ap, subst, ◌∙◌}
use mathlib.Core.Bool.{true, false, not, ◌||◌, false≢true}
use mathlib.Core.List.{List, [], ◌∷◌}
use mathlib.Core.Option.{some, none}
use native.Mathlib.Omega.{arith}
use borrow.Author.Tests.{eqb-true}
use Rattle.laws.proofs.Pick.{either, cases}
use Rattle.parts.specs.Control.{control_of, takes_words, gives_words, is_data, words_to_come}
use Rattle.parts.specs.Kind.{kind_of}
use Rattle.parts.specs.declared.kind.Kind.{Kind}
use Rattle.parts.specs.declared.kind.Kind.TheVariants.{Select, Deselect, Use, Reset, Unknown}
use Rattle.parts.specs.declared.kind.Work.{Work}
use Rattle.parts.specs.declared.kind.Work.TheVariants.{DataControl, WordFromHost, End}
use Rattle.parts.specs.Tests.{transferring, is_taking}
use Rattle.parts.specs.declared.setup.Place.{Place}
use Rattle.parts.specs.declared.event.Event.{Event}
use Rattle.drive.specs.State.{Result, with_transfer, posted_on}
use Rattle.drive.specs.Drive.{selected, deselected, after_reset, head_stepped, closed, ended}
use Rattle.drive.specs.Request.{octet2_cleared}
use Rattle.drive.specs.Command.{parameter_sent, word_from_host, ended_early}
use Rattle.drive.specs.Answer.{paper}
use Rattle.drive.specs.Transfer.{word_staged, staged}
use Rattle.drive.specs.Refusal.{row7}
use Rattle.drive.specs.Accepted.{is_refused}
use Rattle.drive.specs.Run.{Machine, machine, answer_to, after, answers, final}
use Rattle.drive.specs.Sessions.{Is}
use Rattle.drive.specs.CutShort.{opens_write, Words, Cuts, by_end, by_takeover, by_reset, OpensNoWrite, CutShort}
use Rattle.drive.specs.CutShort as cut
use Rattle.drive.specs.declared.drive.Drive.{Drive}
use Rattle.drive.specs.declared.answer.Answer.{Answer}
use Rattle.drive.specs.declared.answer.Answer.TheVariants.{Opened}
use Rattle.drive.specs.declared.answer.Outcome.{Outcome}
use Rattle.drive.proofs.Laws.{by_cases, accepted_by, refused_changes_nothing, done_by, left, AllPassed}
use Rattle.drive.proofs.Journal.{is_write_open, no_write, write_open, exchange_closed}
use Rattle.drive.proofs.Outcomes

-- ---- the words of a write

-- j words of a write came, of n; or it is over. The sectors are what they were.
record Coming (n j : ℕ) (d : Drive) : Type 0 where
  moved : d.transfer.moved ≡ j
  words : words_to_come d.setup d.transfer.control ≡ n

data Unfinished (n j : ℕ) (sectors : List ℕ) (m : Machine) : Type 0 where
  going : Coming n j m.drive → m.sectors ≡ sectors → Unfinished n j sectors m
  over : is_write_open m.drive.transfer ≡ false → m.sectors ≡ sectors → Unfinished n j sectors m

same_sectors : {n j : ℕ} {sectors : List ℕ} {m : Machine} → Unfinished n j sectors m → m.sectors ≡ sectors
same_sectors (going c s) = s
same_sectors (over w s) = s

-- an opening of a write
not_opened : {answer : Answer} {n : ℕ} {place : Place} → (paper answer).place ≡ none → answer ≡ Opened n place → ⊥
unfolding paper
not_opened {place = place} h o =
    let there : none ≡ some place = sym h ∙ ap (λ (a : Answer). (paper a).place) o in
    let z : ◌≡◌ {A = ℕ} 0 1 = cc in
    omega arith

-- what was open then, and where
pub record Opening (d : Drive) (e : Event) (n : ℕ) (next : Drive) : Type 0 where
  pub hearing : Drive
  pub at : Drive
  pub heard : Outcomes.Heard d e DataControl hearing
  pub sought : Outcomes.Sought hearing e.a0 at
  pub opens : (takes_words (control_of e.a0) || gives_words (control_of e.a0)) ≡ true
  pub words : words_to_come at.setup e.a0 ≡ n
  pub drive : next ≡ with_transfer at (transferring e.a0 0)

opened_there : {d : Drive} {e : Event} {sectors : List ℕ} {work : Work} {o : Outcome} {n : ℕ} {place : Place} → Outcomes.Told d e sectors work o
    → o.answer ≡ Opened n place → Opening d e n o.drive
unfolding paper
opened_there (Outcomes.an_opening a q w) h = record { hearing = _; at = _; heard = a; sought = q; opens = w; words = cc; drive = refl }
opened_there (Outcomes.a_word high w p r) h = absurd (not_opened p h)
opened_there (Outcomes.a_response_word low w p r) h = absurd (not_opened p h)
opened_there Outcomes.a_response h = absurd (not_opened refl h)
opened_there (Outcomes.nothing w p r) h = absurd (not_opened p h)

opened_quietly : {d : Drive} {e : Event} {sectors staging : List ℕ} {work : Work} {r : Result} {n : ℕ} {place : Place} → Outcomes.WorkDone d e sectors staging work r
    → r.outcome.answer ≡ Opened n place → r.sectors ≡ sectors
unfolding paper
opened_quietly (Outcomes.quiet q) h = refl
opened_quietly (Outcomes.miscompared high) h = refl
opened_quietly (Outcomes.completed high z) h = absurd (not_opened refl h)
opened_quietly (Outcomes.more high z) h = refl

opened_by : (k : Kind) (m : Machine) (e : Event) {n : ℕ} {place : Place} → (done_by k m e).outcome.answer ≡ Opened n place
    → Opening m.drive e n (left (done_by k m e)).drive × ((left (done_by k m e)).sectors ≡ m.sectors)
unfolding paper
opened_by Select m e h = absurd (not_opened refl h)
opened_by Deselect m e h = absurd (not_opened refl h)
opened_by Reset m e h = absurd (not_opened refl h)
opened_by Unknown m e h = absurd (not_opened refl h)
opened_by (Use work) m e h =
    let done = Outcomes.work_done m.drive e m.sectors m.staging work in
    (opened_there (Outcomes.work_told done) h, opened_quietly done h)

pub opened : (m : Machine) (e : Event) {n : ℕ} {place : Place} → answer_to m e ≡ Opened n place
    → Opening m.drive e n (after m e).drive × ((after m e).sectors ≡ m.sectors)
unfolding paper
opened m e {n} {place} =
    by_cases (λ answer next. answer ≡ Opened n place → Opening m.drive e n next.drive × (next.sectors ≡ m.sectors)) m e
    (λ r z h. absurd (not_opened refl h)) (λ k z p h. opened_by k m e h)

-- one more word, of a write or a command that has another to come behind it
staged_on : {n j : ℕ} {sectors : List ℕ} (m : Machine) (e : Event) → suc j < n → Coming n j m.drive → m.sectors ≡ sectors
    → Unfinished n (suc j) sectors (left (done_by (Use WordFromHost) m e))
unfolding word_from_host parameter_sent word_staged staged ended
staged_on {n} {j} {sectors} m e more c s =
    either (λ (r : Result). Unfinished n (suc j) sectors (left r)) (is_data m.drive.transfer.control)
    (either (λ (r : Result). Unfinished n (suc j) sectors (left r)) _ (over no_write s)
    (cases (λ (r : Result). Unfinished n (suc j) sectors (left r)) _
    (λ z. absurd (omega (arith, eqb-true (m.drive.transfer.moved + 1) (words_to_come m.drive.setup m.drive.transfer.control) z)))
    (λ z. going (record { moved = omega arith; words = c.words }) s)))
    (cases (λ (o : Outcome). Unfinished n (suc j) sectors (machine o.drive m.sectors m.staging)) _
    (λ z. absurd (omega (arith, eqb-true (m.drive.transfer.moved + 1) (words_to_come m.drive.setup m.drive.transfer.control) z)))
    (λ z. going (record { moved = omega arith; words = c.words }) s))

-- a word of data is not accepted where no write is open
never_sent : {A : Type 0} (d : Drive) → is_write_open d.transfer ≡ false → is_data d.transfer.control ≡ true → not (is_taking d.transfer) ≡ false → A
never_sent d c high t = absurd (false≢true (sym c ∙ write_open d.transfer high t))

-- a word is no request
never_asked : {A : Type 0} {d : Drive} {e : Event} {o : Outcome} → Outcomes.Asked d e WordFromHost o → A
never_asked (Outcomes.bad q b) = elim q [ ]

-- the write is over: what comes is a command's word
over_on : {n j : ℕ} {sectors : List ℕ} (m : Machine) (e : Event) → is_write_open m.drive.transfer ≡ false → m.sectors ≡ sectors
    → row7 WordFromHost m.drive ≡ false → Unfinished n j sectors (left (done_by (Use WordFromHost) m e))
over_on {n} {j} {sectors} m e w s t = by_outcome (Outcomes.work_done m.drive e m.sectors m.staging WordFromHost)
  where
    by_outcome : {r : Result} → Outcomes.WorkDone m.drive e m.sectors m.staging WordFromHost r → Unfinished n j sectors (left r)
    by_outcome (Outcomes.quiet (Outcomes.unsolicited r z)) = elim r [ ]
    by_outcome (Outcomes.quiet (Outcomes.asked h x)) = never_asked x
    by_outcome (Outcomes.quiet (Outcomes.exchanged low x)) = over (exchange_closed low x) s
    by_outcome (Outcomes.miscompared high) = never_sent m.drive w high t
    by_outcome (Outcomes.completed high z) = never_sent m.drive w high t
    by_outcome (Outcomes.more high z) = never_sent m.drive w high t

one_word : {n j : ℕ} {sectors : List ℕ} (m : Machine) (e : Event) → suc j < n → Unfinished n j sectors m → is_refused (answer_to m e) ≡ false
    → kind_of e.kind ≡ Use WordFromHost → Unfinished n (suc j) sectors (after m e)
one_word {n} {j} {sectors} m e more u a z =
    accepted_by (λ answer next. Unfinished n (suc j) sectors next) (Use WordFromHost) m e z a (λ p. by_word u p.own.1.0)
  where
    by_word : Unfinished n j sectors m → row7 WordFromHost m.drive ≡ false → Unfinished n (suc j) sectors (left (done_by (Use WordFromHost) m e))
    by_word (over w s) t = over_on m e w s t
    by_word (going c s) t = staged_on m e more c s

-- what each word before the last carries on is so after all of them
module _ (way : Work) (P : ℕ → Machine → Type 0) (Q : Machine → Type 0) (n : ℕ) (enough : (j : ℕ) (m : Machine) → P j m → Q m)
    (step : (j : ℕ) (m : Machine) (e : Event) → suc j < n → P j m → is_refused (answer_to m e) ≡ false → Is (Use way) e → P (suc j) (after m e)) where
  pub words_passed : (j : ℕ) {k : ℕ} (m : Machine) {events : List Event} → P j m → Words way m events k → j + k < n → Q (final m events)
  unfolding final
  words_passed j m p cut.none h = enough j m p
  words_passed j m p (cut.refused {e = e} r w) h = words_passed j (after m e) (subst (P j) (sym (refused_changes_nothing m e r)) p) w h
  words_passed j m p (cut.word {e = e} a z w) h = words_passed (suc j) (after m e) (step j m e (omega arith) p a z) w (omega arith)

unfinished : (m : Machine) (opening : Event) {n k : ℕ} {place : Place} {sent : List Event} → answer_to m opening ≡ Opened n place
    → Words WordFromHost (after m opening) sent k → k < n → (final (after m opening) sent).sectors ≡ m.sectors
unfinished m opening {n} o w h =
    let first = opened m opening o in
    words_passed WordFromHost (λ j next. Unfinished n j m.sectors next) (λ next. next.sectors ≡ m.sectors) n (λ j next u. same_sectors u)
    (λ j next e more u a z. one_word next e more u a z) 0 (after m opening)
    (going (record { moved = rw first.0.drive; words = rw first.0.drive first.0.words }) first.1) w (omega arith)

-- ---- where no write is open

-- an event leaves the sectors, and no write open
record Left (m n : Machine) : Type 0 where
  sectors : n.sectors ≡ m.sectors
  closed : is_write_open n.drive.transfer ≡ false

-- what cuts a write leaves none
cut_by : (m : Machine) (e : Event) → Cuts m e → Left m (after m e)
unfolding selected after_reset ended closed ended_early
cut_by m e (by_end z a) =
    accepted_by (λ answer next. Left m next) (Use End) m e z a
    (λ p. record { sectors = refl; closed = either (λ (d : Drive). is_write_open d.transfer ≡ false) _ no_write no_write })
cut_by m e (by_takeover z a) = accepted_by (λ answer next. Left m next) Select m e z a (λ p. record { sectors = refl; closed = no_write })
cut_by m e (by_reset z a) = accepted_by (λ answer next. Left m next) Reset m e z a (λ p. record { sectors = refl; closed = no_write })

asked_closed : {d : Drive} {e : Event} {work : Work} {o : Outcome} → is_write_open d.transfer ≡ false → Outcomes.Asked d e work o
    → opens_write e o.answer ≡ false → is_write_open o.drive.transfer ≡ false
unfolding posted_on head_stepped ended
asked_closed c (Outcomes.bad q b) n = c
asked_closed c (Outcomes.stepped k) n = c
asked_closed c (Outcomes.nothing_to_come q w) n = no_write
asked_closed c (Outcomes.opens q o z) n = n
asked_closed c (Outcomes.placed h) n = c
asked_closed c (Outcomes.aimed h) n = c

quiet_closed : {d : Drive} {e : Event} {sectors : List ℕ} {work : Work} {o : Outcome} → is_write_open d.transfer ≡ false → Outcomes.Quiet d e sectors work o
    → opens_write e o.answer ≡ false → is_write_open o.drive.transfer ≡ false
unfolding posted_on octet2_cleared ended
quiet_closed c (Outcomes.unsolicited q z) n = c
quiet_closed c (Outcomes.asked (Outcomes.afresh f z) x) n = asked_closed c x n
quiet_closed c (Outcomes.asked (Outcomes.as_it_was z) x) n = asked_closed c x n
quiet_closed c (Outcomes.taken_last high) n = no_write
quiet_closed c (Outcomes.taken high z) n = c
quiet_closed c (Outcomes.ends high) n = no_write
quiet_closed c (Outcomes.exchanged low x) n = exchange_closed low x
quiet_closed c Outcomes.status_told n = c

work_closed : {d : Drive} {e : Event} {sectors staging : List ℕ} {work : Work} {r : Result} → is_write_open d.transfer ≡ false → row7 work d ≡ false
    → Outcomes.WorkDone d e sectors staging work r → opens_write e r.outcome.answer ≡ false → Left (machine d sectors staging) (left r)
work_closed c t (Outcomes.quiet q) n = record { sectors = refl; closed = quiet_closed c q n }
work_closed {d} c t (Outcomes.miscompared high) n = never_sent d c high t
work_closed {d} c t (Outcomes.completed high z) n = never_sent d c high t
work_closed {d} c t (Outcomes.more high z) n = never_sent d c high t

kind_closed : (k : Kind) (m : Machine) (e : Event) → is_write_open m.drive.transfer ≡ false → AllPassed k m e
    → opens_write e (done_by k m e).outcome.answer ≡ false → Left m (left (done_by k m e))
unfolding selected deselected after_reset
kind_closed Select m e c p n = record { sectors = refl; closed = no_write }
kind_closed Deselect m e c p n = record { sectors = refl; closed = c }
kind_closed Reset m e c p n = record { sectors = refl; closed = no_write }
kind_closed Unknown m e c p n = record { sectors = refl; closed = c }
kind_closed (Use work) m e c p n = work_closed c p.own.1.0 (Outcomes.work_done m.drive e m.sectors m.staging work) n

stays_closed : (m : Machine) (e : Event) → is_write_open m.drive.transfer ≡ false → opens_write e (answer_to m e) ≡ false → Left m (after m e)
stays_closed m e c =
    by_cases (λ answer next. opens_write e answer ≡ false → Left m next) m e (λ n z o. record { sectors = refl; closed = c }) (λ k z p o. kind_closed k m e c p o)

nothing_written : (m : Machine) (events : List Event) → is_write_open m.drive.transfer ≡ false → OpensNoWrite events (answers m events)
    → (final m events).sectors ≡ m.sectors
unfolding final answers
nothing_written m [] c o = refl
nothing_written m (e ∷ events) c o =
    let now = stays_closed m e c o.0 in
    nothing_written (after m e) events now.closed o.1 ∙ now.sectors

pub cut_short : CutShort
cut_short =
    record {
      unfinished = unfinished;
      cut = λ m opening cut {n} {k} {place} {sent} o w h c later none-opened.
          let now = cut_by (final (after m opening) sent) cut c in
          nothing_written (after (final (after m opening) sent) cut) later now.closed none-opened ∙ now.sectors ∙ unfinished m opening o w h;
    }
