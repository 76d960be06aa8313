-- `stops_on_request`: a replay in parts counts right, and its parts put end to end are one uncut replay.
-- Assumes nothing.
use Rattle.std.proofs.Common.{◌≡◌, ℕ, ◌+◌, ◌-◌, ◌*◌, ◌%◌, ◌^◌, ◌<◌, ◌≤◌, List, [], ◌∷◌, ◌++◌, length, take, drop, sym, refl, ap, ◌∙◌, ap₂, append_assoc, le_trans, arith, length-append, take-append-drop, length-take, take_all, drop-drop, take_at, take-add, ltb-false, le-ltb, eq-eqb, eqb-true}
use native.Mathlib.Nat.{min-le_left, min-le_right, pow-le-pow_right}
use borrow.Author.Tests.{not-false}
use lib.Seq.{drop-append_seam}
use Rattle.laws.specs.Lists.{written_over}
use Rattle.laws.proofs.Lists.{length_table}
use Rattle.laws.specs.Octets.{AllOctets}
use Rattle.laws.proofs.Octets.{octets_taken, octets_dropped, number_fits}
use Rattle.laws.proofs.Pick.{not_f}
use Rattle.laws.proofs.Rows.{none_given}
use Rattle.std.specs.Prelude.{Result, Ok}
use Rattle.refusals.specs.declared.refusal.Refusal.{Refusal}
use Rattle.refusals.proofs.OnPaper.{paper_only}
use Rattle.parts.specs.declared.event.Event.{Event}
use Rattle.drive.specs.Run.{Machine, machine, answers, final}
use Rattle.drive.specs.AnswerWords.{answer_words, words_of_answers}
use Rattle.drive.specs.Batch.{events_of, record_count}
use Rattle.drive.specs.declared.answer.Answer.{Answer}
use Rattle.drive.specs.declared.drive.Drive.{Drive}
use Rattle.drive.proofs.Along.{final_goes_on, answers_go_on}
use Rattle.drive.proofs.Turns.{thirteen, answer_count, event_count}
use Rattle.events.specs.State.{drive_in, state_after}
use Rattle.events.specs.Event.{machine_in}
use Rattle.events.specs.Run.{run_rows, RunOnWords}
use Rattle.events.specs.Part.{part, part_of, tick_at, gap, gap_at, gaps_of, part_rows, part_refusal}
use Rattle.events.specs.Stops.{Lending, PartCall, SameDrive, Counts, Joined, Difference, StopsOnRequest}
use Rattle.events.proofs.Goes.{unmoved, goes_along}
use Rattle.events.proofs.Parts.{part_count, part_gaps, gone_round_lem, part_ran}

-- ---- lists

-- the rest behind the first of a list, by how many there are
behind_front : {A : Type 0} (list : List A) (n : ℕ) → drop (length (take n list)) list ≡ drop n list
behind_front list n =
    ap (drop (length (take n list))) (sym (take-append-drop n list)) ∙ drop-append_seam (take n list) (drop n list)

-- a part and one more from where it stopped are the part of both
part_split : {A : Type 0} (list : List A) (from a b n : ℕ) → n ≡ length (part from a list) → part from (a + b) list ≡ part from a list ++ part (from + n) b list
part_split list from a b n e =
    take-add a b (drop from list)
    ∙ ap (λ rest. take a (drop from list) ++ take b rest) (sym (behind_front (drop from list) a) ∙ ap (λ (k : ℕ). drop k (drop from list)) (sym e) ∙ drop-drop n from list)

front_told : (list front : List ℕ) (n : ℕ) → length front ≡ n → take n (written_over list front) ≡ front
front_told list front n e = take_at front (drop (length front) list) n e

words_join : (told later : List Answer) → words_of_answers (told ++ later) ≡ words_of_answers told ++ words_of_answers later
unfolding words_of_answers
words_join [] later = refl
words_join (answer ∷ told) later =
    ap (λ rest. answer_words answer ++ rest) (words_join told later) ∙ sym (append_assoc (answer_words answer) (words_of_answers told) (words_of_answers later))

words_count : (told : List Answer) → length (words_of_answers told) ≡ 13 * length told
unfolding words_of_answers
words_count [] = refl
words_count (answer ∷ told) = rw (length-append (answer_words answer) (words_of_answers told), thirteen answer, words_count told) (omega arith)

-- ---- a call that was not refused

abbrev pub machine_of : Lending → Machine
machine_of w = machine_in w.state w.sectors w.staging

-- what it ran, and what it left
record Went (w : Lending) (records : List ℕ) (from limit n : ℕ) (w' : Lending) : Type 0 where
  long : 21 ≤ length w.state
  whole : length records % 8 ≡ 0
  room : 13 * n ≤ length w.answers
  count : n ≡ length (part_of records from limit)
  told : take (13 * n) w'.answers ≡ words_of_answers (answers (machine_of w) (part_of records from limit))
  gapped : take n w'.gaps ≡ part from limit (gaps_of records)

pub gap_count : (records : List ℕ) (from limit : ℕ) → length (part from limit (gaps_of records)) ≡ length (part_of records from limit)
gap_count records from limit = ap length (part_gaps records from limit) ∙ length_table (gap_at records) from _ ∙ sym (part_count records from limit)

went : {w w' : Lending} {records : List ℕ} {from limit n : ℕ} → PartCall w records from limit (Ok n) w' → Went w records from limit n w'
went {w} {records = records} {from} {limit} {n} call =
    let events = part_of records from limit in
    let (count, passed) = part_ran call in
    record {
      long = ltb-false (length w.state) 21 passed.0;
      whole = eqb-true (length records % 8) 0 (not-false _ passed.1.1.1.0);
      room = rw count (ltb-false (length w.answers) (13 * length events) passed.1.0);
      count = count;
      told = ap (take (13 * n)) call.answers
          ∙ front_told w.answers _ _ (words_count (answers (machine_of w) events) ∙ ap (λ (k : ℕ). 13 * k) (answer_count (machine_of w) events ∙ sym count));
      gapped = ap (take n) call.gaps ∙ front_told w.gaps _ _ (gap_count records from limit ∙ sym count);
    }

-- with room for all of the records it is not refused
pub not_refused : {w w' : Lending} {records : List ℕ} {from limit : ℕ} {r : Result ℕ Refusal} → 21 ≤ length w.state → 13 * record_count records ≤ length w.answers
    → record_count records ≤ length w.gaps → length records % 8 ≡ 0 → PartCall w records from limit r w' → r ≡ Ok (length (part_of records from limit))
not_refused {w} {records = records} {from} {limit} long told gapped whole call =
    let count = length (part_of records from limit) in
    let few : count ≤ record_count records = rw (part_count records from limit) (omega (arith, min-le_right limit (record_count records - from))) in
    let free : part_refusal w.state records from limit w.answers w.gaps ≡ 0 =
    none_given (part_rows w.state records from limit w.answers w.gaps)
    (le-ltb (length w.state) 21 long, (le-ltb (length w.answers) (13 * count) (omega (arith, few)), (le-ltb (length w.gaps) count (omega (arith, few)), (not_f _ (eq-eqb (length records % 8) 0 whole), tt)))) in
    paper_only (call.answer ∙ rw free)

-- ---- what it counts

counts : {w w' : Lending} {records : List ℕ} {from limit n : ℕ} → PartCall w records from limit (Ok n) w' → Counts w records from limit n
counts {w} {records = records} {from} {limit} {n} call =
    let g = went call in
    let all = drop from (events_of records) in
    let least = g.count ∙ part_count records from limit in
    record {
      consumed = g.count;
      answered = g.count ∙ sym (answer_count (machine_of w) (part_of records from limit));
      least = least;
      within = rw least (min-le_left limit (record_count records - from));
      rest = sym (take-append-drop limit all)
          ∙ ap (λ (rest : List Event). part_of records from limit ++ rest) (sym (behind_front all limit) ∙ ap (λ (k : ℕ). drop k all) (sym g.count) ∙ drop-drop n from (events_of records));
    }

-- ---- parts put end to end

-- the drive after a part stands in the words that it left
pub record Stands (w : Lending) (events : List Event) (v : Lending) : Type 0 where
  pub long : 21 ≤ length v.state
  pub machine : machine_of v ≡ final (machine_of w) events
  pub again : (d : Drive) → state_after v.state d ≡ state_after w.state d

pub stands : {u u' v : Lending} {records : List ℕ} {from limit n : ℕ} → PartCall u records from limit (Ok n) u' → SameDrive v u' → Stands u (part_of records from limit) v
stands {u} {records = records} {from} {limit} call same =
    let events = part_of records from limit in
    let g = goes_along u.state u.sectors u.staging events (went call).long in
    let state = same.state ∙ call.state in
    record {
      long = rw state g.long;
      machine = λ i. machine ((ap drive_in state ∙ g.drive) i) ((same.sectors ∙ call.sectors) i) ((same.staging ∙ call.staging) i);
      again = λ d. ap (λ (l : List ℕ). state_after l d) state ∙ g.again d;
    }

joined : {u u' v v' w w' : Lending} {records : List ℕ} {from a b n₁ n₂ n : ℕ} → PartCall u records from a (Ok n₁) u'
    → SameDrive v u' → PartCall v records (from + n₁) b (Ok n₂) v' → SameDrive w u → PartCall w records from (a + b) (Ok n) w' → Joined n₁ u' n₂ v' n w'
joined {u} {u'} {v} {v'} {w} {w'} {records} {from} {a} {b} {n₁} {n₂} {n} one on two anew both =
    let first = part_of records from a in
    let second = part_of records (from + n₁) b in
    let all = part_of records from (a + b) in
    let g₁ = went one in
    let g₂ = went two in
    let g = went both in
    let m = machine_of u in
    let start : machine_of w ≡ m = λ i. machine (drive_in (anew.state i)) (anew.sectors i) (anew.staging i) in
    let events : all ≡ first ++ second = part_split (events_of records) from a b n₁ g₁.count in
    let k = stands one on in
    let end : final (machine_of w) all ≡ final (machine_of v) second =
    ap₂ final start events ∙ final_goes_on m first second ∙ ap (λ (x : Machine). final x second) (sym k.machine) in
    let told : answers (machine_of w) all ≡ answers m first ++ answers (machine_of v) second =
    ap₂ answers start events ∙ answers_go_on m first second ∙ ap (λ (x : Machine). answers m first ++ answers x second) (sym k.machine) in
    record {
      count = g.count ∙ ap length events ∙ length-append first second ∙ ap₂ (λ (i j : ℕ). i + j) (sym g₁.count) (sym g₂.count);
      state = both.state ∙ ap₂ state_after anew.state (ap (λ (x : Machine). x.drive) end) ∙ sym (k.again _) ∙ sym two.state;
      sectors = both.sectors ∙ ap (λ (x : Machine). x.sectors) end ∙ sym two.sectors;
      staging = both.staging ∙ ap (λ (x : Machine). x.staging) end ∙ sym two.staging;
      answers = g.told ∙ ap words_of_answers told ∙ words_join (answers m first) (answers (machine_of v) second)
          ∙ sym (ap₂ (λ (x y : List ℕ). x ++ y) g₁.told g₂.told);
      gaps = g.gapped ∙ part_split (gaps_of records) from a b n₁ (g₁.count ∙ sym (gap_count records from a))
          ∙ sym (ap₂ (λ (x y : List ℕ). x ++ y) g₁.gapped g₂.gapped);
    }

-- ---- all of the records, and none

whole : {w w' : Lending} {records : List ℕ} {limit n : ℕ} → PartCall w records 0 limit (Ok n) w' → record_count records ≤ limit
    → RunOnWords w.state records w.sectors w.staging w.answers 0 w'.state w'.sectors w'.staging w'.answers
    × (w'.answers ≡ written_over w.answers (words_of_answers (answers (machine_of w) (events_of records))))
    × (w'.gaps ≡ written_over w.gaps (gaps_of records))
whole {w} {w'} {records} {limit} {n} call h =
    let g = went call in
    let m = machine_of w in
    let size = event_count (record_count records) records in
    let events : part_of records 0 limit ≡ events_of records = take_all limit (events_of records) (rw size h) in
    let gaps : part 0 limit (gaps_of records) ≡ gaps_of records = take_all limit (gaps_of records) (rw (length_table (gap_at records) 0 (record_count records)) h) in
    let count : n ≡ record_count records = g.count ∙ ap length events ∙ size in
    let told : w'.answers ≡ written_over w.answers (words_of_answers (answers m (events_of records))) =
    call.answers ∙ ap (λ es. written_over w.answers (words_of_answers (answers m es))) events in (
      record {
        refusal = sym (none_given (run_rows w.state records w.answers) (le-ltb (length w.state) 21 g.long, (le-ltb (length w.answers) (13 * record_count records) (rw count at g.room), (not_f _ (eq-eqb (length records % 8) 0 g.whole), tt))));
        state = call.state ∙ ap (λ es. state_after w.state (final m es).drive) events;
        sectors = call.sectors ∙ ap (λ es. (final m es).sectors) events;
        staging = call.staging ∙ ap (λ es. (final m es).staging) events;
        out = told;
      },
      told,
      call.gaps ∙ ap (written_over w.gaps) gaps,
    )

nothing : {w w' : Lending} {records : List ℕ} {from n : ℕ} → PartCall w records from 0 (Ok n) w' → (n ≡ 0) × (w' ≡ w)
unfolding final answers words_of_answers
nothing {w} call =
    let g = went call in (
      g.count,
      λ i. record { state = (call.state ∙ unmoved w.state g.long) i; sectors = call.sectors i; staging = call.staging i; answers = call.answers i; gaps = call.gaps i },
    )

-- ---- the gap

ticks_fit : (records : List ℕ) → AllOctets records → (i : ℕ) → tick_at records i < 65536
unfolding tick_at
ticks_fit records all i =
    let rest = drop (8 * i) records in
    let two : length (take 2 rest) ≤ 2 = rw (length-take 2 rest) (min-le_left 2 (length rest)) in
    let most : 256 ^ length (take 2 rest) ≤ 65536 = pow-le-pow_right (omega arith) two in
    le_trans (number_fits (take 2 rest) (octets_taken 2 rest (octets_dropped (8 * i) records all))) most

difference : (earlier later : ℕ) → earlier < 65536 → later < 65536 → Difference earlier later (gap earlier later)
unfolding gap
difference earlier later h k = record { reaches = omega arith; below = omega arith }

no_other : (earlier later n : ℕ) → earlier < 65536 → Difference earlier later n → n ≡ gap earlier later
no_other earlier later n h d =
    let round : (n + earlier) % 65536 ≡ later = omega (arith, d.reaches) in
    gone_round_lem earlier later n h d.below round

pub stops_on_request : StopsOnRequest
stops_on_request =
    record {
      part_counts = counts;
      parts_join = joined;
      whole_part = whole;
      nothing_of_0 = nothing;
      ticks_fit = ticks_fit;
      gap_is_the_difference = difference;
      no_other_difference = no_other;
    }
