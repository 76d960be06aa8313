-- From what a batch did to the promises of `answer_event` and `run_records`.
-- Assumes nothing.
use Rattle.std.proofs.Common.{◌≡◌, ℕ, zero, suc, ◌*◌, ◌/◌, ◌%◌, ◌<◌, ◌≤◌, Bool, true, false, ◌||◌, ltb, List, length, sym, refl, ap, ◌∙◌, true≢false, append-nil, arith, ltb-false, ltb-true, le-ltb, lt-ltb}
use mathlib.Core.Bool.{or-true, or-false}
use Rattle.laws.specs.Pick.{pick}
use Rattle.laws.specs.Rows.{first, unless_refused}
use Rattle.laws.specs.Lists.{written_over}
use Rattle.laws.proofs.Tests.{or_l, or_r}
use Rattle.refusals.specs.Refusal.{named}
use Rattle.refusals.proofs.OnPaper.{of_its_number, reported_by_name}
use Rattle.parts.specs.Kind.{kind_of}
use Rattle.parts.specs.declared.event.Event.{Event}
use Rattle.drive.specs.Answer.{refusal_in}
use Rattle.drive.specs.Accepted.{is_refused}
use Rattle.drive.specs.State.{Result, told, result}
use Rattle.drive.specs.Refusal.{row11, row10, rows, refusal_of}
use Rattle.drive.specs.Event.{handled}
use Rattle.drive.specs.Run.{Machine, answer_to, after, answers, final}
use Rattle.drive.specs.AnswerWords.{answer_words, words_of_answers}
use Rattle.drive.specs.Batch.{event_of, events_in, record_count, batch_refusal}
use Rattle.drive.specs.declared.answer.Answer.{Answer}
use Rattle.drive.specs.declared.answer.Answer.TheVariants.{Refused, Done, Status, Opened, Word, LastWord, Response}
use Rattle.drive.proofs.EveryAnswer.{named_right}
use Rattle.drive.proofs.Laws.{done_by, accepts, refused_changes_nothing}
use Rattle.drive.proofs.Turns.{out_too_short, not_whole, whole_with_room}
use Rattle.events.specs.State.{drive_in, state_after}
use Rattle.events.specs.Event.{machine_in, event_refusal, EventOnWords}
use Rattle.events.specs.Run.{run_refusal, RunOnWords}
use Rattle.events.specs.Turn.{Worked, RefusedShort}
use Rattle.events.proofs.Goes.{unmoved}

-- ---- one event

-- a refused call that changed nothing
event_refused : (state : List ℕ) (e : Event) (sectors staging answer : List ℕ) (n : ℕ) → event_refusal state e sectors staging answer ≡ suc n
    → EventOnWords state e sectors staging answer (suc n) state sectors staging answer
event_refused state e sectors staging answer n h = record { refusal = sym h; state = refl; sectors = refl; staging = refl; answer = refl }

-- there is no state to judge
pub no_state : (state : List ℕ) (e : Event) (sectors staging answer : List ℕ) → length state < 21 → EventOnWords state e sectors staging answer 10 state sectors staging answer
unfolding pick
no_state state e sectors staging answer h = event_refused state e sectors staging answer 9 (rw (lt-ltb (length state) 21 h))

-- there is, and no room for the answer
pub no_room_for_answer : {state : List ℕ} {e : Event} {sectors staging answer : List ℕ} {r : ℕ} {state' sectors' : List ℕ} → 21 ≤ length state → length answer < 13
    → RefusedShort state sectors r state' sectors' → EventOnWords state e sectors staging answer r state' sectors' staging answer
unfolding pick
no_room_for_answer {state} {e} {sectors} {staging} {answer} {r} h k n = rw (n.state, n.sectors) (by_row11 (row11 (drive_in state)) refl n.number)
  where
    by_row11 : (unsound : Bool) → row11 (drive_in state) ≡ unsound → r ≡ pick unsound 11 10 → EventOnWords state e sectors staging answer r state sectors staging answer
    by_row11 true u z = rw z (event_refused state e sectors staging answer 10 (rw (le-ltb (length state) 21 h, u)))
    by_row11 false u z =
        rw z (event_refused state e sectors staging answer 9 (rw (le-ltb (length state) 21 h, u, lt-ltb (length answer) 13 k, or-true (row10 (drive_in state).setup sectors staging))))

pub numbered_refused : (answer : Answer) → (refusal_in answer ≡ 0 → ⊥) → is_refused answer ≡ true
numbered_refused (Refused refusal) h = refl
numbered_refused Done h = absurd (h refl)
numbered_refused (Status s) h = absurd (h refl)
numbered_refused (Opened n p) h = absurd (h refl)
numbered_refused (Word w) h = absurd (h refl)
numbered_refused (LastWord w) h = absurd (h refl)
numbered_refused (Response octet0 octet1 octet2) h = absurd (h refl)

pub refused_answer : (answer : Answer) (n : ℕ) → refusal_in answer ≡ suc n → answer ≡ Refused (named (suc n))
refused_answer (Refused refusal) n e = ap Refused (sym (of_its_number refusal) ∙ ap named e)
refused_answer Done n e = absurd (omega arith)
refused_answer (Status s) n e = absurd (omega arith)
refused_answer (Opened m p) n e = absurd (omega arith)
refused_answer (Word w) n e = absurd (omega arith)
refused_answer (LastWord w) n e = absurd (omega arith)
refused_answer (Response octet0 octet1 octet2) n e = absurd (omega arith)

-- an answer that is no refusal has no number
unnumbered : (answer : Answer) (n : ℕ) → refusal_in answer ≡ n → is_refused answer ≡ false → n ≡ 0
unnumbered answer zero e f = refl
unnumbered answer (suc n) e f = absurd (true≢false (sym (numbered_refused answer (λ z. omega arith)) ∙ f))

-- the answer tells the row that is given
row_told : (m : Machine) (e : Event) → refusal_in (answer_to m e) ≡ first (rows (kind_of e.kind) m.drive e m.sectors m.staging)
unfolding answer_to handled refusal_of
row_told m e =
    let k = kind_of e.kind in
    reported_by_name (λ (r : Result). refusal_in r.outcome.answer) (λ refusal. result (told (Refused refusal) m.drive) m.sectors m.staging) (λ refusal. refl)
    (first (rows k m.drive e m.sectors m.staging)) (λ n z. rw z (named_right k m.drive e m.sectors m.staging n z)) (done_by k m e)
    (unnumbered (done_by k m e).outcome.answer _ refl (accepts k m e))

-- with a state to judge and room for the answer, the call refuses as the drive does
pub as_the_drive : (state : List ℕ) (e : Event) (sectors staging answer : List ℕ) → 21 ≤ length state → 13 ≤ length answer
    → event_refusal state e sectors staging answer ≡ refusal_in (answer_to (machine_in state sectors staging) e)
unfolding pick
as_the_drive state e sectors staging answer h k =
    rw (le-ltb (length state) 21 h, le-ltb (length answer) 13 k, or-false (row10 (drive_in state).setup sectors staging)) (sym (row_told (machine_in state sectors staging) e))

-- what an event with this refusal leaves of a part of the machine: a refused one leaves it
left_by : {A : Type 0} (part : Machine → A) (m : Machine) (e : Event) (r : ℕ) → r ≡ refusal_in (answer_to m e) → part (after m e) ≡ unless_refused r (part m) (part (after m e))
left_by part m e zero h = refl
left_by part m e (suc n) h = ap part (refused_changes_nothing m e (numbered_refused (answer_to m e) (λ z. omega arith)))

pub event_worked : (state : List ℕ) (e : Event) (sectors staging answer records : List ℕ) (r : ℕ) (state' sectors' staging' answer' : List ℕ)
    → 21 ≤ length state → 13 ≤ length answer → event_of records ≡ e
    → Worked false 1 records state sectors staging answer r state' sectors' staging' answer' → EventOnWords state e sectors staging answer r state' sectors' staging' answer'
unfolding pick final answers words_of_answers events_in
event_worked state e sectors staging answer records r state' sectors' staging' answer' long room z w =
    let m = machine_in state sectors staging in
    let k : r ≡ refusal_in (answer_to m e) = w.number ∙ ap (λ (x : Event). refusal_in (answer_to m x)) z in
    record {
      refusal = k ∙ sym (as_the_drive state e sectors staging answer long room);
      state = w.state ∙ ap (λ (x : Event). state_after state (after m x).drive) z ∙ left_by (λ (x : Machine). state_after state x.drive) m e r k
          ∙ ap (λ (l : List ℕ). unless_refused r l (state_after state (after m e).drive)) (unmoved state long);
      sectors = w.sectors ∙ ap (λ (x : Event). (after m x).sectors) z ∙ left_by (λ (x : Machine). x.sectors) m e r k;
      staging = w.staging ∙ ap (λ (x : Event). (after m x).staging) z ∙ left_by (λ (x : Machine). x.staging) m e r k;
      answer = w.out ∙ ap (λ (l : List ℕ). unless_refused r answer (written_over answer l)) (append-nil (answer_words (answer_to m (event_of records))))
          ∙ ap (λ (x : Event). unless_refused r answer (written_over answer (answer_words (answer_to m x)))) z;
    }

-- what a call leaves, refused or not, is what the event does
pub as_after : {state : List ℕ} {e : Event} {sectors staging answer : List ℕ} {r : ℕ} {state' sectors' staging' answer' : List ℕ} → 21 ≤ length state → 13 ≤ length answer
    → EventOnWords state e sectors staging answer r state' sectors' staging' answer'
    → (state' ≡ state_after state (after (machine_in state sectors staging) e).drive) × (sectors' ≡ (after (machine_in state sectors staging) e).sectors)
    × (staging' ≡ (after (machine_in state sectors staging) e).staging)
as_after {state} {e} {sectors} {staging} {answer} {r} long room call =
    let m = machine_in state sectors staging in
    let k = call.refusal ∙ as_the_drive state e sectors staging answer long room in (
      call.state ∙ ap (λ (l : List ℕ). unless_refused r l (state_after state (after m e).drive)) (sym (unmoved state long))
          ∙ sym (left_by (λ (x : Machine). state_after state x.drive) m e r k),
      call.sectors ∙ sym (left_by (λ (x : Machine). x.sectors) m e r k),
      call.staging ∙ sym (left_by (λ (x : Machine). x.staging) m e r k),
    )

-- ---- many

run_refused : (state records sectors staging out : List ℕ) (n : ℕ) → run_refusal state records out ≡ suc n
    → RunOnWords state records sectors staging out (suc n) state sectors staging out
run_refused state records sectors staging out n h = record { refusal = sym h; state = refl; sectors = refl; staging = refl; out = refl }

with_state : (state records out : List ℕ) → ltb (length state) 21 ≡ false → run_refusal state records out ≡ batch_refusal records out
unfolding pick
with_state state records out h = rw h

pub run_short : (state records sectors staging out : List ℕ) → (ltb (length state) 21 || ltb (length out / 13) (record_count records)) ≡ true
    → RunOnWords state records sectors staging out 10 state sectors staging out
unfolding pick
run_short state records sectors staging out h = run_refused state records sectors staging out 9 (by_state (ltb (length state) 21) refl h)
  where
    by_state : (short : Bool) → ltb (length state) 21 ≡ short → (short || ltb (length out / 13) (record_count records)) ≡ true → run_refusal state records out ≡ 10
    by_state true e k = rw e
    by_state false e k = with_state state records out e ∙ out_too_short records out (ltb-true (length out / 13) (record_count records) k)

room : (state records out : List ℕ) → (ltb (length state) 21 || ltb (length out / 13) (record_count records)) ≡ false
    → (ltb (length state) 21 ≡ false) × (record_count records ≤ length out / 13)
room state records out h =
    let a = ltb (length state) 21 in
    let b = ltb (length out / 13) (record_count records) in
    (or_l a b h, ltb-false (length out / 13) (record_count records) (or_r a b h))

pub run_room : (state records out : List ℕ) → (ltb (length state) 21 || ltb (length out / 13) (record_count records)) ≡ false
    → (21 ≤ length state) × (8 * record_count records ≤ length records) × (13 * record_count records ≤ length out)
run_room state records out h =
    let r = room state records out h in
    (ltb-false (length state) 21 r.0, omega arith, omega (arith, r.1))

pub run_not_whole : (state records sectors staging out : List ℕ) → (ltb (length state) 21 || ltb (length out / 13) (record_count records)) ≡ false
    → (length records % 8 ≡ 0 → ⊥) → RunOnWords state records sectors staging out 8 state sectors staging out
run_not_whole state records sectors staging out h n =
    let r = room state records out h in
    run_refused state records sectors staging out 7 (with_state state records out r.0 ∙ not_whole records out r.1 n)

pub run_worked : (state records sectors staging out : List ℕ) (r : ℕ) (state' sectors' staging' out' : List ℕ)
    → (ltb (length state) 21 || ltb (length out / 13) (record_count records)) ≡ false → length records % 8 ≡ 0
    → Worked true (record_count records) records state sectors staging out r state' sectors' staging' out' → RunOnWords state records sectors staging out r state' sectors' staging' out'
unfolding pick
run_worked state records sectors staging out r state' sectors' staging' out' h n w =
    let k = room state records out h in
    let z = w.number in
    record {
      refusal = z ∙ sym (with_state state records out k.0 ∙ whole_with_room records out k.1 n);
      state = rw z w.state;
      sectors = rw z w.sectors;
      staging = rw z w.staging;
      out = rw z (rw z at w.out);
    }
