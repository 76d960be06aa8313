-- A part over the bench drive: the words that `replay_part` tells make the report.
-- Assumes nothing.
use Prim.Native.Nat.{ℕ, ◌+◌, ◌-◌, ◌*◌, ◌%◌, ◌≤◌}
use mathlib.Core.Path.{◌≡◌, refl, sym, ap, ap₂, ◌∙◌}
use mathlib.Core.Bool.{true}
use mathlib.Core.List.{List, [], ◌∷◌, ◌++◌, append_assoc}
use native.Mathlib.Nat.{min-le_right}
use native.Mathlib.Omega.{arith}
use lib.ListN.{length, get_or, take, drop, replicate, get_or-append}
use lib.Seq.{drop_at}
use Rattle.std.specs.Prelude.{Result, Ok, Err}
use Rattle.refusals.specs.Refusal.{number}
use Rattle.refusals.proofs.OnPaper.{number_is_not_0}
use Rattle.refusals.specs.declared.refusal.Refusal.{Refusal}
use Rattle.laws.specs.Lists.{written_over, one_of}
use Rattle.laws.specs.Pick.{pick}
use Rattle.laws.proofs.Lists.{each_one_of}
use Rattle.status.specs.DriveStatus.{octet_of}
use Rattle.parts.specs.declared.setup.Setup.{Setup}
use Rattle.drive.specs.Answer.{paper}
use Rattle.drive.specs.Run.{Machine, answers, final}
use Rattle.drive.specs.AnswerWords.{answer_words, words_of_answers}
use Rattle.drive.specs.Batch.{event_of, events_in, events_of, record_count}
use Rattle.drive.specs.Bounded.{statuses, Bounded, AllBounded}
use Rattle.drive.specs.Cases.{bench}
use Rattle.drive.specs.declared.answer.Answer.{Answer}
use Rattle.drive.specs.declared.answer.Answer.TheVariants.{Refused, Done, Status, Opened, Word, LastWord, Response}
use Rattle.drive.proofs.Bounded.{answers_bounded, octets_along}
use Rattle.drive.proofs.Turns.{thirteen, answer_count}
use Rattle.events.specs.State.{drive_in}
use Rattle.events.specs.Event.{machine_in}
use Rattle.events.specs.Power.{PoweredUpOnWords}
use Rattle.events.specs.Part.{part, part_of, gaps_of, PartOnWords}
use Rattle.events.specs.Stops.{Lending, PartCall, SameDrive}
use Rattle.events.proofs.Computing.{computing_words}
use Rattle.events.proofs.Parts.{part_count, part_events}
use Rattle.events.proofs.Stops.{machine_of, gap_count, not_refused, Stands, stands}
use Rattle.bench.specs.Text.{hex_digit, two_hex_digits}
use Rattle.bench.specs.Line.{gap_line_of}
use Rattle.bench.specs.Run.{bench_at_rest}
use Rattle.bench.specs.Part.{gap_lines, bench_before, part_text, part_report}
use Rattle.bench.specs.Told.{status_told_by, told_line, told_lines, told_report, Ready, Made}

-- ---- a line, by the words of an answer

-- the statuses that a drive sends are octets, and none of them is FFFF
status_told_lem : (status : ℕ) → one_of statuses status ≡ true → status_told_by status ≡ two_hex_digits status
unfolding status_told_by hex_digit pick
status_told_lem status h = each_one_of (λ s. status_told_by s ≡ two_hex_digits s) statuses status h (refl, (refl, (refl, (refl, tt))))

line_told : (s : Setup) (number port : ℕ) (answer : Answer) (gap : ℕ) → Bounded s answer
    → told_line number port (get_or (answer_words answer) 0 0) (get_or (answer_words answer) 1 0) gap ≡ gap_line_of number port answer gap
unfolding told_line gap_line_of answer_words paper status_told_by hex_digit pick
line_told s number port (Refused refusal) gap b = refl
line_told s number port Done gap b = refl
line_told s number port (Status status) gap b = rw (status_told_lem (octet_of status) b)
line_told s number port (Opened words place) gap b = refl
line_told s number port (Word word) gap b = refl
line_told s number port (LastWord word) gap b = refl
line_told s number port (Response octet0 octet1 octet2) gap b = refl

-- the lines, by the words of all answers, whatever stands behind them
lines_told : (s : Setup) (told : List Answer) (number : ℕ) (records gaps rest rest' : List ℕ) → AllBounded s told → length gaps ≡ length told
    → told_lines number (length told) records (words_of_answers told ++ rest) (gaps ++ rest') ≡ gap_lines number (events_in (length told) records) told gaps
unfolding told_lines gap_lines words_of_answers events_in event_of
lines_told s [] number records gaps rest rest' b e = refl
lines_told s (answer ∷ told) number records [] rest rest' b e = absurd (omega arith)
lines_told s (answer ∷ told) number records (gap ∷ gaps) rest rest' b e =
    let words = words_of_answers told ++ rest in
    let size = thirteen answer in
    let first = get_or-append (answer_words answer) words 0 0 (rw size (omega arith)) in
    let second = get_or-append (answer_words answer) words 0 1 (rw size (omega arith)) in
    let behind = drop_at (answer_words answer) words 13 size in
    let later = lines_told s told (number + 1) (drop 8 records) gaps rest rest' b.1 (omega arith) in
    rw (append_assoc (answer_words answer) (words_of_answers told) rest, first, second, behind, later, line_told s number (get_or records 2 0) answer gap b.0)

-- ---- the bench drive on words

pub record Up (state : List ℕ) : Type 0 where
  pub long : 21 ≤ length state
  pub rests : machine_in state (replicate 48 0) (replicate 4 0) ≡ bench_at_rest

bench_up : {r : ℕ} {state : List ℕ} → PoweredUpOnWords bench (replicate 48 0) (replicate 4 0) (replicate 21 0) r state → Up state
unfolding computing_words
bench_up p = record { long = rw p.state (omega arith); rests = rw p.state }

-- ---- the part

module _ {u v w : Lending} {records : List ℕ} {from limit : ℕ} {r₁ r₂ : Result ℕ Refusal} (up : Up u.state) (zero_sectors : u.sectors ≡ replicate 48 0)
    (zero_staging : u.staging ≡ replicate 4 0) (whole : length records % 8 ≡ 0) (few : record_count records ≤ 8191)
    (room : length u.answers ≡ 106483) (room' : length v.answers ≡ 106483) (gap_room : length u.gaps ≡ 8191) (gap-room' : length v.gaps ≡ 8191)
    (one : PartCall u records 0 from r₁ v) (two : PartCall v records from limit r₂ w) where
  again : {x : Lending} → SameDrive x x
  again = record { state = refl; sectors = refl; staging = refl }

  before : Stands u (part_of records 0 from) v
  before = stands (rw (not_refused up.long (omega (arith, few, room)) (omega (arith, few, gap_room)) whole one) at one) again

  there : machine_of v ≡ bench_before records from
  there =
      let rests : machine_of u ≡ bench_at_rest = (λ i. machine_in u.state (zero_sectors i) (zero_staging i)) ∙ up.rests in
      before.machine ∙ ap (λ (m : Machine). final m (part_of records 0 from)) rests

  pub ran : r₂ ≡ Ok (length (part_of records from limit))
  ran = not_refused before.long (omega (arith, few, room')) (omega (arith, few, gap-room')) whole two

  call : PartCall v records from limit (Ok (length (part_of records from limit))) w
  call = rw ran at two

  owner_told : get_or w.state 8 0 ≡ (final (bench_before records from) (part_of records from limit)).drive.holding.owner
  unfolding drive_in
  owner_told =
      ap (λ (m : Machine). m.drive.holding.owner) ((stands call again).machine ∙ ap (λ (m : Machine). final m (part_of records from limit)) there)

  -- the pending octets of a drive at rest are octets, and those of any drive after it
  bounded : AllBounded (bench_before records from).drive.setup (answers (bench_before records from) (part_of records from limit))
  bounded =
      answers_bounded.run (bench_before records from) (part_of records from limit)
      (octets_along bench_at_rest (take from (events_of records)) ((omega arith, omega arith), (omega arith, omega arith)))

  all_lines_lem : told_lines (from + 1) (length (part_of records from limit)) (drop (8 * from) records) w.answers w.gaps
      ≡ gap_lines (from + 1) (part_of records from limit) (answers (bench_before records from) (part_of records from limit)) (part from limit (gaps_of records))
  all_lines_lem =
      let events = part_of records from limit in
      let told = answers (bench_before records from) events in
      let gaps = part from limit (gaps_of records) in
      let words = words_of_answers told in
      let size : length told ≡ length events = answer_count (bench_before records from) events in
      let same : events_in (length events) (drop (8 * from) records) ≡ events = rw (part_count records from limit) (sym (part_events records from limit)) in
      let answered : w.answers ≡ words ++ drop (length words) v.answers =
      call.answers ∙ ap (λ (m : Machine). written_over v.answers (words_of_answers (answers m events))) there in
      let lines = lines_told (bench_before records from).drive.setup told (from + 1) (drop (8 * from) records) gaps (drop (length words) v.answers) (drop (length gaps) v.gaps) bounded (gap_count records from limit ∙ sym size) in
      rw (answered, call.gaps) (rw (size, same) at lines)

  pub report : told_report from (length (part_of records from limit)) (get_or w.state 8 0) records w.answers w.gaps ≡ part_report from limit records
  unfolding part_report
  report =
      let count = length (part_of records from limit) in
      ap₂ (λ (lines : List ℕ) (owner : ℕ). part_text count lines owner (record_count records) (from + count)) all_lines_lem owner_told

pub made : {records : List ℕ} {from limit r₀ : ℕ} {r₁ r₂ : Result ℕ Refusal}
    {state₀ sectors₀ staging₀ answers₀ gaps₀ state state₁ sectors₁ staging₁ answers₁ gaps₁ state₂ sectors₂ staging₂ answers₂ gaps₂ : List ℕ}
    → Ready records state₀ sectors₀ staging₀ answers₀ gaps₀ → length answers₁ ≡ length answers₀ → length gaps₁ ≡ length gaps₀
    → PoweredUpOnWords bench sectors₀ staging₀ state₀ r₀ state
    → PartOnWords state records 0 from sectors₀ staging₀ answers₀ gaps₀ r₁ state₁ sectors₁ staging₁ answers₁ gaps₁
    → PartOnWords state₁ records from limit sectors₁ staging₁ answers₁ gaps₁ r₂ state₂ sectors₂ staging₂ answers₂ gaps₂
    → Made from limit records r₂ state₂ answers₂ gaps₂
made {records} {from} {limit} {r₁ = r₁} {r₂} {state₀} {sectors₀} {staging₀} {answers₀} {gaps₀} {state} {state₁} {sectors₁} {staging₁} {answers₁} {gaps₁} {state₂} {sectors₂} {staging₂} {answers₂} {gaps₂} ready kept gaps-kept power one two =
    let u : Lending = record { state = state; sectors = sectors₀; staging = staging₀; answers = answers₀; gaps = gaps₀ } in
    let v : Lending = record { state = state₁; sectors = sectors₁; staging = staging₁; answers = answers₁; gaps = gaps₁ } in
    let w : Lending = record { state = state₂; sectors = sectors₂; staging = staging₂; answers = answers₂; gaps = gaps₂ } in
    let up = bench_up (rw (ready.blank, ready.zero_sectors, ready.zero_staging) at power) in
    let few : record_count records ≤ 8191 = omega (arith, ready.short) in
    let room = ready.room in
    let gap_room = ready.gap_room in
    record {
      ran = ran {u = u} {v = v} {w = w} up ready.zero_sectors ready.zero_staging ready.whole few room (kept ∙ room) gap_room (gaps-kept ∙ gap_room) one two;
      few = rw (part_count records from limit) (min-le_right limit (record_count records - from));
      report = report {u = u} {v = v} {w = w} up ready.zero_sectors ready.zero_staging ready.whole few room (kept ∙ room) gap_room (gaps-kept ∙ gap_room) one two;
    }

-- ---- neither the power-up nor the part before is refused

pub powers_up : {records state₀ sectors₀ staging₀ answers₀ gaps₀ state : List ℕ} (refusal : Refusal) → Ready records state₀ sectors₀ staging₀ answers₀ gaps₀
    → PoweredUpOnWords bench sectors₀ staging₀ state₀ (number refusal) state → ⊥
unfolding computing_words
powers_up refusal ready p = number_is_not_0 refusal (rw (ready.blank, ready.zero_sectors, ready.zero_staging) at p.answer)

pub runs_before : {records : List ℕ} {from r₀ : ℕ} {state₀ sectors₀ staging₀ answers₀ gaps₀ state state₁ sectors₁ staging₁ answers₁ gaps₁ : List ℕ} (refusal : Refusal)
    → Ready records state₀ sectors₀ staging₀ answers₀ gaps₀ → PoweredUpOnWords bench sectors₀ staging₀ state₀ r₀ state
    → PartOnWords state records 0 from sectors₀ staging₀ answers₀ gaps₀ (Err refusal) state₁ sectors₁ staging₁ answers₁ gaps₁ → ⊥
runs_before {records} {from} {state₀ = state₀} {sectors₀} {staging₀} {answers₀} {gaps₀} {state} {state₁} {sectors₁} {staging₁} {answers₁} {gaps₁} refusal ready power one =
    let u : Lending = record { state = state; sectors = sectors₀; staging = staging₀; answers = answers₀; gaps = gaps₀ } in
    let v : Lending = record { state = state₁; sectors = sectors₁; staging = staging₁; answers = answers₁; gaps = gaps₁ } in
    let up = bench_up (rw (ready.blank, ready.zero_sectors, ready.zero_staging) at power) in
    let few : record_count records ≤ 8191 = omega (arith, ready.short) in
    let e = not_refused {w = u} {w' = v} {records = records} up.long (omega (arith, few, ready.room)) (omega (arith, few, ready.gap_room)) ready.whole one in
    cc
