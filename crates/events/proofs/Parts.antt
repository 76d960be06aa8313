-- A part of a capture's records: how many events it has, the gaps between ticks, and from what a batch did to the promise of `replay_part`.
-- Assumes nothing.
use Rattle.std.proofs.Common.{◌≡◌, ℕ, zero, suc, ◌+◌, ◌-◌, ◌*◌, ◌/◌, ◌%◌, ◌^◌, ◌<◌, ◌≤◌, min, Bool, true, false, not, ◌||◌, eqb, ltb, List, length, get_or, take, drop, set, sym, refl, ap, ◌∙◌, zero-add, arith, ltb-false, eq-eqb, ne_eqb}
use native.Mathlib.Nat.{min-le_right}
use lib.Seq.{paste, paste-zero, paste-suc, take-length}
use Rattle.std.specs.Prelude.{Ok, Err}
use Rattle.refusals.specs.Refusal.{number}
use Rattle.refusals.specs.declared.refusal.Refusal.{Refusal}
use Rattle.refusals.specs.declared.refusal.Refusal.TheVariants.{Malformed, SliceTooShort}
use Rattle.refusals.proofs.OnPaper.{left_as_it_was, value_given}
use Rattle.laws.specs.Lists.{written_over, table_from}
use Rattle.laws.proofs.Lists.{table_from_lem, length_table, take_table, drop_table}
use Rattle.laws.specs.Pick.{pick}
use Rattle.laws.proofs.Rows.{Passed, all_passed}
use Rattle.laws.proofs.Runs.{run_read}
use Rattle.laws.proofs.Tests.{or_l, or_r, same_test_lem}
use Rattle.drive.specs.Batch.{events_in, record_count}
use Rattle.drive.proofs.Turns.{event_count, events_taken, events_dropped}
use Rattle.events.specs.Event.{machine_in}
use Rattle.events.specs.Part.{part, part_of, tick_at, gap, gap_at, gaps_of, part_rows, part_refusal, PartOnWords}
use Rattle.events.specs.Turn.{Worked}
use Rattle.events.proofs.Batches.{worked_none}

-- ---- how many there are

pub part_events : (records : List ℕ) (from limit : ℕ) → part_of records from limit ≡ events_in (min limit (record_count records - from)) (drop (8 * from) records)
part_events records from limit =
    ap (take limit) (events_dropped (record_count records) records from) ∙ events_taken (record_count records - from) (drop (8 * from) records) limit

pub part_count : (records : List ℕ) (from limit : ℕ) → length (part_of records from limit) ≡ min limit (record_count records - from)
part_count records from limit = ap length (part_events records from limit) ∙ event_count (min limit (record_count records - from)) (drop (8 * from) records)

pub part_gaps : (records : List ℕ) (from limit : ℕ) → part from limit (gaps_of records) ≡ table_from (gap_at records) from (min limit (record_count records - from))
part_gaps records from limit =
    ap (take limit) (drop_table (gap_at records) 0 (record_count records) from ∙ ap (λ (n : ℕ). table_from (gap_at records) n (record_count records - from)) (zero-add from))
    ∙ take_table (gap_at records) from (record_count records - from) limit

-- ---- the gaps

pub tick_read : (records : List ℕ) (i : ℕ) → 8 * i + 8 ≤ length records → tick_at records i ≡ get_or records (8 * i) 0 * 256 + get_or records (8 * i + 1) 0
unfolding tick_at
tick_read records i h =
    let next : suc (8 * i) ≡ 8 * i + 1 = omega arith in
    rw (run_read records (8 * i) 2 (omega arith), next) (omega arith)

-- the middle of a pair of octets written twice
pub changed_over : (high low : ℕ) → high < 2 ^ 8 → low < 2 ^ 8 → ((low * 256 + high) * 65536 + (low * 256 + high)) / 256 % 65536 ≡ high * 256 + low
changed_over high low h k =
    let by_256 : ((low * 256 + high) * 65536 + (low * 256 + high)) / 256 ≡ low * 65536 + (high * 256 + low) = omega arith in
    rw by_256 (omega arith)

-- the difference that goes round
pub gone_round_lem : (earlier later r : ℕ) → earlier < 65536 → r < 65536 → (r + earlier) % 2 ^ 16 ≡ later → r ≡ gap earlier later
unfolding gap
gone_round_lem earlier later r h k e = omega (arith, sym e)

-- the first record's own tick leaves a gap of 0
gap_before : (records : List ℕ) (i : ℕ) → tick_at records (i - 1) < 65536 → gap_at records i ≡ gap (tick_at records (i - 1)) (tick_at records i)
unfolding gap_at gap
gap_before records zero h = omega arith
gap_before records (suc i) h = let e : suc i - 1 ≡ i = omega arith in rw e

-- so many of the gaps are told, and the tick before the next is known
pub record Gapping (records gaps₀ gaps : List ℕ) (from count earlier i : ℕ) : Type 0 where
  pub within : i ≤ count
  pub room : length gaps ≡ length gaps₀
  pub before : earlier ≡ tick_at records (from + i - 1)
  pub small : earlier < 65536
  pub told : gaps ≡ paste gaps₀ 0 (table_from (gap_at records) from count) i

pub gapping_next : {records gaps₀ gaps : List ℕ} {from count earlier i : ℕ} (later r : ℕ) → i < count → count ≤ length gaps₀ → r < 65536
    → later ≡ tick_at records (from + i) → (r + earlier) % 2 ^ 16 ≡ later → Gapping records gaps₀ gaps from count earlier i
    → set gaps i r ≡ paste gaps₀ 0 (table_from (gap_at records) from count) (i + 1)
gapping_next {records} {gaps₀} {gaps} {from} {count} {earlier} {i} later r h room fits e d g =
    let table = table_from (gap_at records) from count in
    let next : i + 1 ≡ suc i = omega arith in
    let value : r ≡ get_or table i 0 =
    gone_round_lem earlier later r g.small fits d ∙ ap (gap earlier) e ∙ ap (λ (t : ℕ). gap t (tick_at records (from + i))) g.before
    ∙ sym (gap_before records (from + i) (rw g.before at g.small)) ∙ sym (table_from_lem (gap_at records) from count i h) in
    let put = paste-suc gaps₀ 0 table i 0 (omega arith) (rw (length_table (gap_at records) from count) h) in
    rw (next, value, g.told) (ap (λ (k : ℕ). set (paste gaps₀ 0 table i) k (get_or table i 0)) (sym (zero-add i)) ∙ put)

pub gapping_start : (records gaps : List ℕ) (from count earlier : ℕ) → earlier ≡ tick_at records (from - 1) → earlier < 65536
    → Gapping records gaps gaps from count earlier 0
gapping_start records gaps from count earlier e h =
    let first : from + 0 - 1 ≡ from - 1 = omega arith in
    record { within = omega arith; room = refl; before = e ∙ ap (tick_at records) (sym first); small = h; told = paste-zero gaps 0 (table_from (gap_at records) from count) }

-- all are told
pub gapping_ended : {records gaps₀ gaps : List ℕ} {from count earlier i : ℕ} → count ≤ i → Gapping records gaps₀ gaps from count earlier i
    → gaps ≡ written_over gaps₀ (table_from (gap_at records) from count)
gapping_ended {records} {gaps₀} {gaps} {from} {count} {earlier} {i} h g =
    let table = table_from (gap_at records) from count in
    let size = length_table (gap_at records) from count in
    let all : i ≡ length table = rw size (omega (arith, g.within)) in
    g.told ∙ rw (all, zero-add (length table), take-length table)

-- ---- from what a batch did to the promise of `replay_part`

-- the tests for 10 as the code makes them
abbrev pub is_short : List ℕ → List ℕ → List ℕ → ℕ → Bool
is_short state answers gaps count = (ltb (length state) 21 || ltb (length answers / 13) count) || ltb (length gaps) count

rows_joined : (a b c : Bool) (rest : ℕ) → pick a 10 (pick b 10 (pick c 10 rest)) ≡ pick ((a || b) || c) 10 rest
unfolding pick
rows_joined true b c rest = refl
rows_joined false true c rest = refl
rows_joined false false c rest = refl

part_refusal_lem : (state records : List ℕ) (from limit : ℕ) (answers gaps : List ℕ) {count : ℕ} → count ≡ min limit (record_count records - from)
    → part_refusal state records from limit answers gaps ≡ pick (is_short state answers gaps count) 10 (pick (not (eqb (length records % 8) 0)) 8 0)
part_refusal_lem state records from limit answers gaps {count} e =
    let n = length (part_of records from limit) in
    let same : n ≡ count = part_count records from limit ∙ sym e in
    let room : ltb (length answers) (13 * count) ≡ ltb (length answers / 13) count =
    same_test_lem (length answers) (13 * count) (length answers / 13) count (λ h. omega arith) (λ h. omega arith) in
    rw (same, room) (rows_joined (ltb (length state) 21) (ltb (length answers / 13) count) (ltb (length gaps) count) _)

-- refused, and nothing changed
part_refused : (state records : List ℕ) (from limit : ℕ) (sectors staging answers gaps : List ℕ) (refusal : Refusal) → part_refusal state records from limit answers gaps ≡ number refusal
    → PartOnWords state records from limit sectors staging answers gaps (Err refusal) state sectors staging answers gaps
part_refused state records from limit sectors staging answers gaps refusal e =
    record { answer = rw e (sym (left_as_it_was refusal _ refl)); state = sym (left_as_it_was refusal _ refl); sectors = sym (left_as_it_was refusal _ refl); staging = sym (left_as_it_was refusal _ refl); answers = sym (left_as_it_was refusal _ refl); gaps = sym (left_as_it_was refusal _ refl) }

pub part_short : (state records : List ℕ) (from limit : ℕ) (sectors staging answers gaps : List ℕ) {count : ℕ} → count ≡ min limit (record_count records - from)
    → is_short state answers gaps count ≡ true → PartOnWords state records from limit sectors staging answers gaps (Err SliceTooShort) state sectors staging answers gaps
unfolding pick
part_short state records from limit sectors staging answers gaps e h =
    part_refused state records from limit sectors staging answers gaps SliceTooShort (part_refusal_lem state records from limit answers gaps e ∙ rw h)

pub part_not_whole : (state records : List ℕ) (from limit : ℕ) (sectors staging answers gaps : List ℕ) {count : ℕ} → count ≡ min limit (record_count records - from)
    → is_short state answers gaps count ≡ false → (length records % 8 ≡ 0 → ⊥)
    → PartOnWords state records from limit sectors staging answers gaps (Err Malformed) state sectors staging answers gaps
unfolding pick
part_not_whole state records from limit sectors staging answers gaps e h n =
    part_refused state records from limit sectors staging answers gaps Malformed (part_refusal_lem state records from limit answers gaps e ∙ rw (h, ne_eqb (length records % 8) 0 n))

-- room for what will be run
pub record Roomy (state records : List ℕ) (from : ℕ) (answers gaps : List ℕ) (count : ℕ) : Type 0 where
  pub long : 21 ≤ length state
  pub told : 13 * count ≤ length answers
  pub gapped : count ≤ length gaps
  pub whole : (count ≡ 0 → ⊥) → 8 * (from + count) ≤ length records

pub part_room : (state records : List ℕ) (from limit : ℕ) (answers gaps : List ℕ) {count : ℕ} → count ≡ min limit (record_count records - from)
    → is_short state answers gaps count ≡ false → Roomy state records from answers gaps count
part_room state records from limit answers gaps {count} e h =
    let a = ltb (length state) 21 in
    let b = ltb (length answers / 13) count in
    let c = ltb (length gaps) count in
    let long = ltb-false (length state) 21 (or_l a b (or_l (a || b) c h)) in
    let told = ltb-false (length answers / 13) count (or_r a b (or_l (a || b) c h)) in
    let few : count ≤ record_count records - from = rw e (min-le_right limit (record_count records - from)) in
    record { long = long; told = omega (arith, told); gapped = ltb-false (length gaps) count (or_r (a || b) c h); whole = λ some. omega (arith, few, some) }

pub part_worked : {state records : List ℕ} {from limit : ℕ} {sectors staging answers gaps : List ℕ} {count r : ℕ} {state' sectors' staging' answers' gaps' : List ℕ}
    → count ≡ min limit (record_count records - from) → is_short state answers gaps count ≡ false → length records % 8 ≡ 0
    → Worked true count (drop (8 * from) records) state sectors staging answers r state' sectors' staging' answers'
    → gaps' ≡ written_over gaps (table_from (gap_at records) from count)
    → PartOnWords state records from limit sectors staging answers gaps (Ok count) state' sectors' staging' answers' gaps'
unfolding pick
part_worked {state} {records} {from} {limit} {sectors} {staging} {answers} {gaps} {count} e h n w told =
    let m = machine_in state sectors staging in
    let none : part_refusal state records from limit answers gaps ≡ 0 = part_refusal_lem state records from limit answers gaps e ∙ rw (h, eq-eqb (length records % 8) 0 n) in
    let events : events_in count (drop (8 * from) records) ≡ part_of records from limit = rw e (sym (part_events records from limit)) in
    let size : count ≡ length (part_of records from limit) = e ∙ sym (part_count records from limit) in
    let z = w.number in
    record {
      answer = rw (none, ← size);
      state = rw (← events) w.state;
      sectors = rw (← events) w.sectors;
      staging = rw (← events) w.staging;
      answers = rw (← events) (rw z at w.out);
      gaps = rw (part_gaps records from limit, ← e) told;
    }

-- no event at all
pub part_none : (state records : List ℕ) (from limit : ℕ) (sectors staging answers gaps : List ℕ) {count : ℕ} → count ≡ min limit (record_count records - from)
    → is_short state answers gaps count ≡ false → length records % 8 ≡ 0 → count ≡ 0
    → PartOnWords state records from limit sectors staging answers gaps (Ok 0) state sectors staging answers gaps
part_none state records from limit sectors staging answers gaps {count} e h n z =
    let long = (part_room state records from limit answers gaps e h).long in
    let told : gaps ≡ written_over gaps (table_from (gap_at records) from count) = rw z in
    rw z at (part_worked e h n (worked_none count (drop (8 * from) records) state sectors staging answers long z) told)

-- what a part that was run passed
pub part_ran : {state records : List ℕ} {from limit : ℕ} {sectors staging answers gaps : List ℕ} {n : ℕ} {state' sectors' staging' answers' gaps' : List ℕ}
    → PartOnWords state records from limit sectors staging answers gaps (Ok n) state' sectors' staging' answers' gaps'
    → (n ≡ length (part_of records from limit)) × Passed (part_rows state records from limit answers gaps)
part_ran {state} {records} {from} {limit} {answers = answers} {gaps} call =
    let given = value_given (part_rows state records from limit answers gaps) call.answer in
    (given.1, all_passed (part_rows state records from limit answers gaps) refl given.0)
