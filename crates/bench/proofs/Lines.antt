-- The lines of a run, one by one: what is left after each event, and how long a line is.
-- Assumes nothing.
use Prim.Native.Nat.{ℕ, ◌+◌, ◌*◌, ◌-◌, ◌/◌, ◌<◌}
use mathlib.Core.Path.{◌≡◌, refl}
use mathlib.Core.List.{List, [], ◌∷◌, ◌++◌, append_assoc}
use mathlib.Core.Option.{Option, some, none as nothing}
use native.Mathlib.Omega.{arith}
use lib.ListN.{length, drop, length-append}
use Rattle.parts.specs.declared.event.Event.{Event}
use Rattle.drive.specs.Answer.{refusal_in, paper}
use Rattle.drive.specs.Event.{Handled}
use Rattle.drive.specs.Run.{Machine, machine, answer_to, after, answers, final}
use Rattle.drive.specs.Calls.{none, call}
use Rattle.drive.specs.declared.drive.Drive.{Drive}
use Rattle.drive.specs.declared.answer.Answer.{Answer}
use Rattle.drive.specs.declared.answer.Outcome.{Outcome}
use Rattle.drive.proofs.Calls.{demand_3_of_calls}
use Rattle.drive.proofs.Turns.{events_step, event_count}
use Rattle.bench.specs.Text.{space, newline, decimal, field, numbered_line}
use Rattle.bench.specs.Line.{status_text, event_fields, event_text, line_of, with_gap, owner_line}
use Rattle.bench.specs.Part.{ran_word, next_line, part_text}
use Rattle.drive.specs.Batch.{event_of, events_in, events_of}
use Rattle.bench.specs.Run.{bench_at_rest, events_word, lines_from, lines_of_run, run_report}

pub status_size : (status : Option ℕ) → length (status_text status) ≡ 2
status_size (some status) = refl
status_size nothing = refl

pub fields_size : (number port refusal : ℕ) (status : List ℕ)
    → length (event_fields number port refusal status) ≡ length (field number) + length (field port) + length (field refusal) + length status
fields_size number port refusal status = simp length-append (omega arith)

pub gap_size : (fields : List ℕ) (gap : ℕ) → length (with_gap fields gap) ≡ length fields + 1 + length (decimal gap) + 1
gap_size fields gap =
    omega (
      arith,
      length-append (fields ++ (space ∷ []) ++ decimal gap) (newline ∷ []),
      length-append (fields ++ (space ∷ [])) (decimal gap),
      length-append fields (space ∷ []),
    )

pub text_size : (ran : ℕ) (lines : List ℕ) (owner count next : ℕ)
    → length (part_text ran lines owner count next) ≡ length (numbered_line ran_word ran) + length lines + length (owner_line owner) + length (next_line count next)
text_size ran lines owner count next =
    let first = numbered_line ran_word ran in
    omega (
      arith,
      length-append (first ++ lines ++ owner_line owner) (next_line count next),
      length-append (first ++ lines) (owner_line owner),
      length-append first lines,
    )

pub line_end_lem : (number port : ℕ) (answer : Answer) → length (line_of number port answer) ≡ length (event_text number port answer) + 1
unfolding line_of
line_end_lem number port answer = length-append (event_text number port answer) (newline ∷ [])

pub line_size : (number port : ℕ) (answer : Answer)
    → length (line_of number port answer) ≡ length (field number) + length (field port) + length (field (refusal_in answer)) + 2 + 1
unfolding line_of
line_size number port answer = simp length-append (omega (arith, status_size (paper answer).status))

module _ {d : Drive} {e : Event} {sectors staging sectors' staging' : List ℕ} {r : Outcome} (kept : Handled d e sectors staging r sectors' staging') where
  call_told : r.answer ≡ answer_to (machine d sectors staging) e
  unfolding answer_to
  call_told = kept.answer

  call_left : machine r.drive sectors' staging' ≡ after (machine d sectors staging) e
  unfolding final
  call_left = (demand_3_of_calls.ran (call kept none)).ended

next_line_lem : (number : ℕ) (m : Machine) (e : Event) (later : List Event)
    → lines_of_run number m (e ∷ later) ≡ line_of number e.port (answer_to m e) ++ lines_of_run (number + 1) (after m e) later
unfolding lines_of_run lines_from answers final
next_line_lem number m e later = append_assoc (line_of number e.port (answer_to m e)) (lines_from (number + 1) later (answers (after m e) later)) _

-- what is left to write once i of count records are done
abbrev pub left : List ℕ → ℕ → ℕ → Machine → List ℕ
left records count i m = lines_of_run (i + 1) m (events_in (count - i) (drop (i * 8) records))

module _ (records : List ℕ) (count : ℕ) where
  events_left : (i : ℕ) → i < count
      → events_in (count - i) (drop (i * 8) records) ≡ event_of (drop (i * 8) records) ∷ events_in (count - (i + 1)) (drop ((i + 1) * 8) records)
  events_left i h =
      let here : i * 8 ≡ 8 * i = omega arith in
      let behind : (i + 1) * 8 ≡ 8 * (i + 1) = omega arith in
      rw (here, behind) (events_step count i records h)

  pub left_next : (i : ℕ) {d : Drive} {e : Event} {sectors staging sectors' staging' : List ℕ} {r : Outcome} → i < count → e ≡ event_of (drop (i * 8) records)
      → Handled d e sectors staging r sectors' staging'
      → left records count i (machine d sectors staging) ≡ line_of (i + 1) e.port r.answer ++ left records count (i + 1) (machine r.drive sectors' staging')
  left_next i h is kept = rw (events_left i h, ← is, next_line_lem, call_told kept, call_left kept)

  pub left_none : (i : ℕ) (m : Machine) → i ≡ count → left records count i m ≡ owner_line m.drive.holding.owner
  unfolding lines_of_run lines_from answers final events_in
  left_none i m e = let done : count - i ≡ 0 = omega arith in rw done

pub left_all : (records : List ℕ) (m : Machine) → lines_of_run 1 m (events_of records) ≡ left records (length records / 8) 0 m
left_all records m = let all : length records / 8 - 0 ≡ length records / 8 = omega arith in rw all

pub run_report_lem : (records : List ℕ) → run_report records ≡ numbered_line events_word (length records / 8) ++ lines_of_run 1 bench_at_rest (events_of records)
unfolding run_report
run_report_lem records = rw (event_count (length records / 8) records)
