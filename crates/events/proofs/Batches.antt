-- A batch on words: its turns and how they end, and the refusals of a state that rows 11 and 10 do not let pass.
-- Assumes nothing.
use Rattle.std.proofs.Common.{◌≡◌, ℕ, zero, suc, ◌+◌, ◌-◌, ◌*◌, ◌<◌, ◌≤◌, Bool, true, false, ltb, List, [], ◌++◌, length, take, drop, sym, refl, ap, ◌∙◌, append_assoc, append-nil, arith, lt-ltb}
use mathlib.Core.Bool.{or-true}
use lib.Seq.{drop-length}
use Rattle.laws.specs.Pick.{pick}
use Rattle.laws.specs.Rows.{unless_refused}
use Rattle.laws.specs.Lists.{written_over}
use Rattle.laws.proofs.Pick.{either}
use Rattle.laws.proofs.Runs.{rest_whole}
use Rattle.refusals.specs.Refusal.{number, named}
use Rattle.refusals.specs.declared.refusal.Refusal.{Refusal}
use Rattle.refusals.proofs.OnPaper.{number_is_not_0}
use Rattle.parts.specs.Setup as setup
use Rattle.parts.specs.Setup.{sector_words}
use Rattle.parts.specs.declared.event.Event.{Event}
use Rattle.drive.specs.Answer.{refusal_in}
use Rattle.drive.specs.Refusal.{row11, row10}
use Rattle.drive.specs.AnswerWords.{answer_words, words_of_answers}
use Rattle.drive.specs.Run.{Machine, answer_to, after, answers, final}
use Rattle.drive.specs.Batch.{event_of, events_in}
use Rattle.drive.specs.Able.{judgement, TurnTaken}
use Rattle.drive.specs.declared.drive.Drive.{Drive}
use Rattle.drive.specs.declared.answer.Answer.{Answer}
use Rattle.drive.specs.declared.answer.Answer.TheVariants.{Refused}
use Rattle.parts.proofs.Bounds.{limits}
use Rattle.drive.proofs.Sound.{sound}
use Rattle.drive.proofs.Turns.{Turned, judged_on, lent_rest, next_turn, refused_as_judged, run_behind, thirteen, turned_at_start, turned_through, whole_run}
use Rattle.events.specs.State.{drive_in, state_after}
use Rattle.events.specs.Event.{machine_in}
use Rattle.events.specs.Turn.{quietly, refusals, Turn, Worked, RefusedShort}
use Rattle.events.proofs.Goes.{goes, unmoved}
use Rattle.events.proofs.Answering.{answered_refused, turn_told}
use Rattle.events.proofs.ToldWords.{refusal_kept, told_out}

pub record Going (telling : Bool) (count : ℕ) (records state₀ sectors₀ staging₀ out₀ state sectors staging out : List ℕ) (i : ℕ) : Type 0 where
  pub long : 21 ≤ length state
  pub judged : 0 ≡ judgement (drive_in state) sectors staging
  pub again : (d : Drive) → state_after state d ≡ state_after state₀ d
  pub turned : Turned (machine_in state₀ sectors₀ staging₀) (events_in count records) out₀ (machine_in state sectors staging) (events_in (count - i) (drop (8 * i) records)) (13 * i) out
  pub first : i ≡ 0 → (state ≡ state₀) × (sectors ≡ sectors₀) × (staging ≡ staging₀) × (out ≡ out₀)
  pub quiet : telling ≡ false → (i ≡ 0 → ⊥) → refusal_in (answer_to (machine_in state₀ sectors₀ staging₀) (event_of records)) ≡ 0

pub going_start : (telling : Bool) (count : ℕ) (records state sectors staging out : List ℕ) → 21 ≤ length state → 0 ≡ judgement (drive_in state) sectors staging
    → Going telling count records state sectors staging out state sectors staging out 0
going_start telling count records state sectors staging out h j =
    record {
      long = h;
      judged = j;
      again = λ d. refl;
      turned = turned_at_start (machine_in state sectors staging) records out count;
      first = λ z. (refl, refl, refl, refl);
      quiet = λ t n. absurd (n refl);
    }

-- what a turn leaves, as the machine's
pub machine_after : {telling : Bool} {e : Event} {state sectors staging out : List ℕ} {n : ℕ} {state' sectors' staging' out' : List ℕ} → 21 ≤ length state
    → Turn telling e state sectors staging out n state' sectors' staging' out' → machine_in state' sectors' staging' ≡ after (machine_in state sectors staging) e
machine_after {e = e} {state} {sectors} {staging} h t =
    let a = t.answered in
    let g = goes state sectors staging e h in
    rw (a.state, a.sectors, a.staging, g.drive)

taken_turn : {telling : Bool} {e : Event} {state sectors staging out : List ℕ} {n : ℕ} {state' sectors' staging' out' : List ℕ} → 21 ≤ length state → n ≡ 0
    → Turn telling e state sectors staging out n state' sectors' staging' out'
    → TurnTaken (machine_in state sectors staging) e out (machine_in state' sectors' staging') out'
taken_turn h z t = record { machine = machine_after h t; out = rw z at (told_out _ _ t.told) }

quiet_refusal : {telling : Bool} {e : Event} {state sectors staging out : List ℕ} {n : ℕ} {state' sectors' staging' out' : List ℕ} → telling ≡ false
    → Turn telling e state sectors staging out n state' sectors' staging' out' → n ≡ refusal_in (answer_to (machine_in state sectors staging) e)
unfolding pick
quiet_refusal f t = rw f at t.told.number

-- the first record of all is that from the start on
front_event : (records : List ℕ) → event_of (take (length records - 8 * 0) (drop (8 * 0) records)) ≡ event_of records
front_event records = ap event_of (rest_whole records 0)

pub going_next : (telling : Bool) (count : ℕ) (records state₀ sectors₀ staging₀ out₀ state sectors staging out : List ℕ) (i n : ℕ) (state' sectors' staging' part : List ℕ)
    → i < count → 13 * count ≤ length out → n ≡ 0
    → Going telling count records state₀ sectors₀ staging₀ out₀ state sectors staging out i
    → Turn telling (event_of (take (length records - 8 * i) (drop (8 * i) records))) state sectors staging (take (length out - 13 * i) (drop (13 * i) out)) n state' sectors' staging' part
    → Going telling count records state₀ sectors₀ staging₀ out₀ state' sectors' staging' (take (13 * i) out ++ (part ++ drop (length out - 13 * i) (drop (13 * i) out))) (i + 1)
going_next telling count records state₀ sectors₀ staging₀ out₀ state sectors staging out i n state' sectors' staging' part h room z g t =
    let e = event_of (take (length records - 8 * i) (drop (8 * i) records)) in
    let w = goes state sectors staging e g.long in
    let a = t.answered.state in
    let k = taken_turn g.long z t in
    record {
      long = rw a w.long;
      judged = judged_on g.judged k;
      again = λ d. rw a (w.again d ∙ g.again d);
      turned = next_turn (machine_in state₀ sectors₀ staging₀) (events_in count records) out₀ (machine_in state sectors staging) (machine_in state' sectors' staging') records count i out part h room g.turned k;
      first = λ y. absurd (omega arith);
      quiet = λ f y. at_first i g t f;
    }
  where
    at_first : (i : ℕ) → Going telling count records state₀ sectors₀ staging₀ out₀ state sectors staging out i
        → Turn telling (event_of (take (length records - 8 * i) (drop (8 * i) records))) state sectors staging (take (length out - 13 * i) (drop (13 * i) out)) n state' sectors' staging' part
        → telling ≡ false → refusal_in (answer_to (machine_in state₀ sectors₀ staging₀) (event_of records)) ≡ 0
    at_first zero g t f =
        let s = g.first refl in
        rw (← s.0, ← s.1, ← s.2, ← (front_event records)) (sym (quiet_refusal f t) ∙ z)
    at_first (suc i) g t f = g.quiet f (λ y. omega arith)

-- a refusal that keeps quiet is the one event's, and its words are kept
stopped : (records state sectors staging out : List ℕ) (n : ℕ) (state' sectors' staging' part : List ℕ) → (n ≡ 0 → ⊥)
    → Turn false (event_of records) state sectors staging out n state' sectors' staging' part → Worked false 1 records state sectors staging out n state' sectors' staging' part
unfolding final events_in
stopped records state sectors staging out n state' sectors' staging' part z t =
    record { number = t.told.number; state = t.answered.state; sectors = t.answered.sectors; staging = t.answered.staging; out = told_out _ _ t.told ∙ kept_by n z _ _ }
  where
    kept_by : (n : ℕ) → (n ≡ 0 → ⊥) → (x y : List ℕ) → unless_refused n out x ≡ unless_refused n out y
    kept_by zero h x y = absurd (h refl)
    kept_by (suc n) h x y = refl

whole_out : (out part : List ℕ) → take (13 * 0) out ++ (part ++ drop (length out - 13 * 0) (drop (13 * 0) out)) ≡ part
whole_out out part =
    let n : length out - 0 ≡ length out = omega arith in
    ap (λ (k : ℕ). part ++ drop k out) n ∙ ap (λ (l : List ℕ). part ++ l) (drop-length out) ∙ append-nil part

pub going_stopped : (telling : Bool) (count : ℕ) (records state₀ sectors₀ staging₀ out₀ state sectors staging out : List ℕ) (i n : ℕ) (state' sectors' staging' part : List ℕ)
    → i < count → (telling ≡ false → count ≡ 1) → (n ≡ 0 → ⊥)
    → Going telling count records state₀ sectors₀ staging₀ out₀ state sectors staging out i
    → Turn telling (event_of (take (length records - 8 * i) (drop (8 * i) records))) state sectors staging (take (length out - 13 * i) (drop (13 * i) out)) n state' sectors' staging' part
    → Worked telling count records state₀ sectors₀ staging₀ out₀ n state' sectors' staging' (take (13 * i) out ++ (part ++ drop (length out - 13 * i) (drop (13 * i) out)))
unfolding pick
going_stopped true count records state₀ sectors₀ staging₀ out₀ state sectors staging out i n state' sectors' staging' part h one z g t = absurd (z t.told.number)
going_stopped false count records state₀ sectors₀ staging₀ out₀ state sectors staging out zero n state' sectors' staging' part h one z g t =
    let s = g.first refl in
    rw (one refl, whole_out out part, ← s.0, ← s.1, ← s.2, ← s.3)
    (stopped records state sectors staging out n state' sectors' staging' part z (rw (front_event records, rest_whole out 0) at t))
going_stopped false count records state₀ sectors₀ staging₀ out₀ state sectors staging out (suc i) n state' sectors' staging' part h one z g t = absurd (omega (arith, one refl))

-- no event is left
pub going_ended : (telling : Bool) (count : ℕ) (records state₀ sectors₀ staging₀ out₀ state sectors staging out : List ℕ) (i : ℕ)
    → i ≡ count → 13 * count ≤ length out → (telling ≡ false → count ≡ 1)
    → Going telling count records state₀ sectors₀ staging₀ out₀ state sectors staging out i
    → Worked telling count records state₀ sectors₀ staging₀ out₀ 0 state sectors staging out
unfolding pick
going_ended telling count records state₀ sectors₀ staging₀ out₀ state sectors staging out i e room one g =
    let gone = turned_through (drive_in state₀) sectors₀ staging₀ out₀ records count i (drive_in state) sectors staging out e room g.turned in
    record {
      number = by_mode telling one g.quiet;
      state = sym (unmoved state g.long) ∙ g.again (drive_in state) ∙ ap (λ (m : Machine). state_after state₀ m.drive) gone.end;
      sectors = ap (λ (m : Machine). m.sectors) gone.end;
      staging = ap (λ (m : Machine). m.staging) gone.end;
      out = gone.out;
    }
  where
    by_mode : (telling : Bool) → (telling ≡ false → count ≡ 1) → (telling ≡ false → (i ≡ 0 → ⊥) → refusal_in (answer_to (machine_in state₀ sectors₀ staging₀) (event_of records)) ≡ 0)
        → 0 ≡ quietly telling (answer_to (machine_in state₀ sectors₀ staging₀) (event_of records))
    by_mode true one quiet = refl
    by_mode false one quiet = sym (quiet refl (λ y. omega (arith, one refl)))

-- no event at all
pub worked_none : (count : ℕ) (records state sectors staging out : List ℕ) → 21 ≤ length state → count ≡ 0 → Worked true count records state sectors staging out 0 state sectors staging out
unfolding pick final answers words_of_answers events_in
worked_none count records state sectors staging out h z = rw z (record { number = refl; state = sym (unmoved state h); sectors = refl; staging = refl; out = refl })

-- ---- a state that rows 11 and 10 refuse

-- the one event of a quiet batch
pub refused_quietly : (records state sectors staging out : List ℕ) (refusal : Refusal) → 21 ≤ length state → number refusal ≡ judgement (drive_in state) sectors staging
    → Worked false 1 records state sectors staging out (number refusal) state sectors staging out
refused_quietly records state sectors staging out refusal h j =
    stopped records state sectors staging out (number refusal) state sectors staging out (number_is_not_0 refusal)
    (turn_told (answered_refused (event_of records) state sectors staging refusal h j) (refusal_kept false (Refused refusal) refusal out refl refl))

-- with no staging words every event is refused, with 11, else 10
no_staging : (d : Drive) (sectors : List ℕ) (unsound : Bool) → row11 d ≡ unsound → pick unsound 11 10 ≡ judgement d sectors []
unfolding judgement row10 pick
no_staging d sectors true e = rw e
no_staging d sectors false e =
    let k = limits d.setup (sound d e).limits in
    rw (e, lt-ltb 0 (sector_words d.setup) (omega (arith, k.some_field1)), or-true (ltb (length sectors) (setup.all_words d.setup)))

pub refused_short : {records state sectors out : List ℕ} {r : ℕ} {state' sectors' staging' out' : List ℕ} → 21 ≤ length state
    → Worked false 1 records state sectors [] out r state' sectors' staging' out' → RefusedShort state sectors r state' sectors'
refused_short {records} {state} {sectors} {out} h w =
    let unsound = row11 (drive_in state) in
    let named_right = either (λ (n : ℕ). number (named n) ≡ n) unsound {x = 11} {y = 10} refl refl in
    let q = refused_quietly records state sectors [] out (named (pick unsound 11 10)) h (named_right ∙ no_staging (drive_in state) sectors unsound refl) in
    record { number = w.number ∙ sym q.number ∙ named_right; state = w.state ∙ sym q.state; sectors = w.sectors ∙ sym q.sectors }

front_or_last : (refusal : Refusal) (count : ℕ) → refusals refusal count ++ answer_words (Refused refusal) ≡ answer_words (Refused refusal) ++ refusals refusal count
unfolding refusals
front_or_last refusal zero = sym (append-nil (answer_words (Refused refusal)))
front_or_last refusal (suc count) =
    let ws = answer_words (Refused refusal) in
    ap (λ (l : List ℕ). l ++ ws) (front_or_last refusal count) ∙ append_assoc ws (refusals refusal count) ws

-- a machine that refuses every event stays, and tells so many refusals
pub record AllRefused (m : Machine) (refusal : Refusal) (count : ℕ) (records : List ℕ) : Type 0 where
  pub end : final m (events_in count records) ≡ m
  pub words : words_of_answers (answers m (events_in count records)) ≡ refusals refusal count

all_refused_lem : (m : Machine) (refusal : Refusal) → ((e : Event) → answer_to m e ≡ Refused refusal) → ((e : Event) → after m e ≡ m) → (count : ℕ) (records : List ℕ)
    → AllRefused m refusal count records
unfolding final answers words_of_answers events_in refusals
all_refused_lem m refusal refuses stays zero records = record { end = refl; words = refl }
all_refused_lem m refusal refuses stays (suc count) records =
    let e = event_of records in
    let es = events_in count (drop 8 records) in
    let ws = answer_words (Refused refusal) in
    let rest = all_refused_lem m refusal refuses stays count (drop 8 records) in
    record {
      end = ap (λ (x : Machine). final x es) (stays e) ∙ rest.end;
      words = ap (λ (a : Answer). answer_words a ++ words_of_answers (answers (after m e) es)) (refuses e) ∙ ap (λ (x : Machine). ws ++ words_of_answers (answers x es)) (stays e)
          ∙ ap (λ (l : List ℕ). ws ++ l) rest.words ∙ sym (front_or_last refusal count);
    }

still : (state sectors staging : List ℕ) (e : Event) → (judgement (drive_in state) sectors staging ≡ 0 → ⊥)
    → after (machine_in state sectors staging) e ≡ machine_in state sectors staging
unfolding after
still state sectors staging e z = rw (refused_as_judged (drive_in state) e sectors staging z)

-- a batch that tells
pub refused_all : (count : ℕ) (records state sectors staging out : List ℕ) (refusal : Refusal) {out' : List ℕ} → 21 ≤ length state
    → number refusal ≡ judgement (drive_in state) sectors staging → out' ≡ written_over out (refusals refusal count) → Worked true count records state sectors staging out 0 state sectors staging out'
unfolding pick
refused_all count records state sectors staging out refusal h j w =
    let k = all_refused_lem (machine_in state sectors staging) refusal refuses (λ e. still state sectors staging e (λ y. number_is_not_0 refusal (j ∙ y))) count records in
    record {
      number = refl;
      state = sym (unmoved state h) ∙ sym (ap (λ (m : Machine). state_after state m.drive) k.end);
      sectors = sym (ap (λ (m : Machine). m.sectors) k.end);
      staging = sym (ap (λ (m : Machine). m.staging) k.end);
      out = rw k.words w;
    }
  where
    refuses : (e : Event) → answer_to (machine_in state sectors staging) e ≡ Refused refusal
    refuses e = sym (answered_refused e state sectors staging refusal h j).answer

-- so many of the refusals are written
pub record Refusing (refusal : Refusal) (out₀ out : List ℕ) (i : ℕ) : Type 0 where
  pub front : take (13 * i) out ≡ refusals refusal i
  pub left : drop (13 * i) out ≡ drop (13 * i) out₀

pub refusing_start : (refusal : Refusal) (out : List ℕ) → Refusing refusal out out 0
unfolding refusals
refusing_start refusal out = record { front = refl; left = refl }

pub refusing_next : (refusal : Refusal) (out₀ out part : List ℕ) (i : ℕ) → 13 * i ≤ length out → Refusing refusal out₀ out i
    → part ≡ written_over (take (length out - 13 * i) (drop (13 * i) out)) (answer_words (Refused refusal))
    → Refusing refusal out₀ (take (13 * i) out ++ (part ++ drop (length out - 13 * i) (drop (13 * i) out))) (i + 1)
unfolding refusals
refusing_next refusal out₀ out part i h g p =
    let ws = answer_words (Refused refusal) in
    let put = run_behind (refusals refusal i) ws out₀ out part (13 * i) h g.front g.left (rw (rest_whole out (13 * i)) at p) in
    let one : i + 1 ≡ suc i = omega arith in
    let size : 13 * suc i ≡ 13 * i + length ws = rw (thirteen (Refused refusal)) (omega arith) in
    rw (one, lent_rest out part (13 * i) h) (record { front = rw size put.0; left = rw size put.1 })

pub refusing_ended : (refusal : Refusal) (count : ℕ) (out₀ out : List ℕ) (i : ℕ) → i ≡ count → 13 * count ≤ length out → Refusing refusal out₀ out i → out ≡ written_over out₀ (refusals refusal count)
refusing_ended refusal count out₀ out i e room g = rw (← e) (whole_run out out₀ (refusals refusal i) (13 * i) (omega arith) g.front g.left)
