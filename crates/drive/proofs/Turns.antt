-- What a batch goes by: rows 11 and 10 say the same of a state after an event as before it, and each turn takes one event and writes one answer.
-- Assumes nothing.
use Prim.Native.Nat.{ℕ, zero, suc, ◌+◌, ◌-◌, ◌*◌, ◌/◌, ◌%◌, ◌<◌, ◌≤◌, min}
use mathlib.Core.Path.{◌≡◌, refl, sym, ap, ◌∙◌}
use mathlib.Core.Bool.{Bool, true, false}
use mathlib.Core.List.{List, [], ◌∷◌, ◌++◌, append-nil, append_assoc}
use native.Mathlib.Nat.{zero-min, min-zero, suc-min-suc}
use native.Mathlib.Omega.{arith}
use borrow.Author.Tests.{lt-ltb, le-ltb, eq-eqb, ne_eqb}
use lib.Dec.{ltb}
use lib.ListN.{length, take, drop, length-append, take-append-drop}
use lib.Seq.{length-take-le, take_at, drop_at, drop-drop, drop-length}
use Rattle.laws.proofs.Runs.{rest_whole}
use Rattle.laws.specs.Pick.{pick}
use Rattle.laws.specs.Lists.{written_over}
use Rattle.parts.specs.declared.event.Event.{Event}
use Rattle.drive.specs.Answer.{paper}
use Rattle.drive.specs.Refusal.{row11, row10}
use Rattle.drive.specs.Event.{handled, refused_with}
use Rattle.drive.specs.Able.{Passable, judgement, TurnTaken, Gone}
use Rattle.drive.specs.Run.{Machine, machine, after, answer_to, answers, final}
use Rattle.drive.specs.AnswerWords.{answer_words, words_of_answers}
use Rattle.drive.specs.Batch.{event_of, events_in, record_count, batch_refusal}
use Rattle.drive.specs.declared.drive.Drive.{Drive}
use Rattle.drive.specs.declared.answer.Answer.{Answer}
use Rattle.drive.specs.declared.answer.Answer.TheVariants.{Refused, Done, Status, Opened, Word, LastWord, Response}
use Rattle.drive.proofs.Step.{refused_with_10, refused_with_11}
use Rattle.drive.proofs.StaysSound.{sound_after}

-- ---- what rows 11 and 10 say

by_rows : (P : ℕ → Type 0) (unsound short : Bool) → (unsound ≡ true → P 11) → (unsound ≡ false → short ≡ true → P 10) → (unsound ≡ false → short ≡ false → P 0)
    → P (pick unsound 11 (pick short 10 0))
unfolding pick
by_rows P true short p q r = p refl
by_rows P false true p q r = q refl refl
by_rows P false false p q r = r refl refl

by_judgement : (P : ℕ → Type 0) (d : Drive) (sectors staging : List ℕ) → (row11 d ≡ true → P 11)
    → (row11 d ≡ false → row10 d.setup sectors staging ≡ true → P 10) → (Passable d sectors staging → P 0) → P (judgement d sectors staging)
unfolding judgement
by_judgement P d sectors staging p q r =
    by_rows P (row11 d) (row10 d.setup sectors staging) p q (λ sound room. r (record { sound = sound; room = room }))

pub passable : (d : Drive) (sectors staging : List ℕ) → judgement d sectors staging ≡ 0 → Passable d sectors staging
passable d sectors staging =
    by_judgement (λ n. n ≡ 0 → Passable d sectors staging) d sectors staging (λ h z. absurd (omega arith)) (λ h k z. absurd (omega arith)) (λ p z. p)

pub refused_as_judged : (d : Drive) (e : Event) (sectors staging : List ℕ) → (judgement d sectors staging ≡ 0 → ⊥)
    → handled d e sectors staging ≡ refused_with (judgement d sectors staging) d sectors staging
refused_as_judged d e sectors staging =
    by_judgement (λ n. (n ≡ 0 → ⊥) → handled d e sectors staging ≡ refused_with n d sectors staging) d sectors staging
    (λ h z. refused_with_11 d e sectors staging h)
    (λ h k z. refused_with_10 d e sectors staging h k)
    (λ p z. absurd (z refl))

sound_judged : (d : Drive) (sectors staging : List ℕ) → Passable d sectors staging → judgement d sectors staging ≡ 0
unfolding judgement pick
sound_judged d sectors staging p = rw (p.sound, p.room)

judgement_on : Machine → ℕ
judgement_on m = judgement m.drive m.sectors m.staging

unmoved : (m : Machine) (e : Event) (n : ℕ) → handled m.drive e m.sectors m.staging ≡ refused_with n m.drive m.sectors m.staging → after m e ≡ m
unfolding after
unmoved m e n h = rw h

pub judged_after : (m : Machine) (e : Event) → judgement (after m e).drive (after m e).sectors (after m e).staging ≡ judgement m.drive m.sectors m.staging
unfolding judgement_on judgement pick
judged_after m e =
    by_judgement (λ n. judgement_on (after m e) ≡ n) m.drive m.sectors m.staging
    (λ h. rw (unmoved m e 11 (refused_with_11 m.drive e m.sectors m.staging h), h))
    (λ h k. rw (unmoved m e 10 (refused_with_10 m.drive e m.sectors m.staging h k), h, k))
    (λ p. sound_judged (after m e).drive (after m e).sectors (after m e).staging (sound_after m e p))

-- ---- an answer's words

pub thirteen : (answer : Answer) → length (answer_words answer) ≡ 13
unfolding answer_words paper
thirteen (Refused refusal) = refl
thirteen Done = refl
thirteen (Status s) = refl
thirteen (Opened n p) = refl
thirteen (Word w) = refl
thirteen (LastWord w) = refl
thirteen (Response octet0 octet1 octet2) = refl

-- ---- a turn: the first event of the rest is answered, and its words follow those that are written

-- From the start to where the events `rest` are left: they end as all do, and their answers' words complete those of all.
pub record Turned (start : Machine) (events : List Event) (out₀ : List ℕ) (m : Machine) (rest : List Event) (at : ℕ) (out : List ℕ) : Type 0 where
  pub end : final m rest ≡ final start events
  pub written : take at out ++ words_of_answers (answers m rest) ≡ words_of_answers (answers start events)
  pub left : drop at out ≡ drop at out₀

-- a run of words put at an index: up to its end, and from its end on
run_put : (out ws : List ℕ) (at : ℕ) → at ≤ length out
    → (take (at + length ws) (take at out ++ (ws ++ drop (length ws) (drop at out))) ≡ take at out ++ ws)
    × (drop (at + length ws) (take at out ++ (ws ++ drop (length ws) (drop at out))) ≡ drop (at + length ws) out)
run_put out ws at h =
    let whole = sym (append_assoc (take at out) ws (drop (length ws) (drop at out))) in
    let size : length (take at out ++ ws) ≡ at + length ws = length-append (take at out) ws ∙ rw (length-take-le at out h) in (
      ap (take (at + length ws)) whole ∙ take_at (take at out ++ ws) (drop (length ws) (drop at out)) (at + length ws) size,
      ap (drop (at + length ws)) whole ∙ drop_at (take at out ++ ws) (drop (length ws) (drop at out)) (at + length ws) size ∙ drop-drop (length ws) at out,
    )

-- the same behind a front that is known, in a slice that is as it was from there on
pub run_behind : (front ws out₀ out part : List ℕ) (at : ℕ) → at ≤ length out → take at out ≡ front → drop at out ≡ drop at out₀ → part ≡ written_over (drop at out) ws
    → (take (at + length ws) (take at out ++ part) ≡ front ++ ws) × (drop (at + length ws) (take at out ++ part) ≡ drop (at + length ws) out₀)
run_behind front ws out₀ out part at h f l p =
    let put = run_put out ws at h in (
      rw p (put.0 ∙ ap (λ (x : List ℕ). x ++ ws) f),
      rw p (put.1 ∙ sym (drop-drop (length ws) at out) ∙ ap (drop (length ws)) l ∙ drop-drop (length ws) at out₀),
    )

-- the slice from an index on, lent and given back
pub lent_rest : (out part : List ℕ) (at : ℕ) → at ≤ length out → take at out ++ (part ++ drop (length out - at) (drop at out)) ≡ take at out ++ part
lent_rest out part at h =
    let e : at + (length out - at) ≡ length out = omega arith in
    ap (λ (rest : List ℕ). take at out ++ (part ++ rest)) (drop-drop (length out - at) at out ∙ ap (λ (n : ℕ). drop n out) e ∙ drop-length out)
    ∙ ap (λ (rest : List ℕ). take at out ++ rest) (append-nil part)

-- the events that are left are the next and those behind it
pub events_step : (count i : ℕ) (records : List ℕ) → i < count
    → events_in (count - i) (drop (8 * i) records) ≡ event_of (drop (8 * i) records) ∷ events_in (count - (i + 1)) (drop (8 * (i + 1)) records)
unfolding events_in
events_step count i records h =
    let n : count - i ≡ suc (count - (i + 1)) = omega arith in
    let k : 8 * i + 8 ≡ 8 * (i + 1) = omega arith in
    rw (n, drop-drop 8 (8 * i) records, k)

pub event_count : (count : ℕ) (records : List ℕ) → length (events_in count records) ≡ count
unfolding events_in
event_count zero records = refl
event_count (suc count) records = ap suc (event_count count (drop 8 records))

pub answer_count : (m : Machine) (events : List Event) → length (answers m events) ≡ length events
unfolding answers
answer_count m [] = refl
answer_count m (e ∷ events) = ap suc (answer_count (after m e) events)

-- the first of the events, and those behind them, are the events of records
pub events_taken : (count : ℕ) (records : List ℕ) (n : ℕ) → take n (events_in count records) ≡ events_in (min n count) records
unfolding events_in
events_taken count records zero = rw (zero-min count)
events_taken zero records (suc n) = rw (min-zero (suc n))
events_taken (suc count) records (suc n) = rw (suc-min-suc n count) (ap (λ (rest : List Event). event_of records ∷ rest) (events_taken count (drop 8 records) n))

pub events_dropped : (count : ℕ) (records : List ℕ) (n : ℕ) → drop n (events_in count records) ≡ events_in (count - n) (drop (8 * n) records)
unfolding events_in
events_dropped count records zero = let e : count - 0 ≡ count = omega arith in rw e
events_dropped zero records (suc n) = let e : 0 - suc n ≡ 0 = omega arith in rw e
events_dropped (suc count) records (suc n) =
    let e : suc count - suc n ≡ count - n = omega arith in
    let k : 8 * suc n ≡ 8 + 8 * n = omega arith in
    rw (e, k, ← (drop-drop (8 * n) 8 records)) (events_dropped count (drop 8 records) n)

turned_by : {start : Machine} {events : List Event} {out₀ : List ℕ} {m m' : Machine} {e : Event} {rest : List Event} {at : ℕ} {out part : List ℕ}
    → at ≤ length out → Turned start events out₀ m (e ∷ rest) at out → TurnTaken m e (drop at out) m' part
    → Turned start events out₀ m' rest (at + 13) (take at out ++ part)
unfolding final answers words_of_answers
turned_by {start} {events} {out₀} {m} {m'} {e} {rest} {at} {out} {part} h t k =
    let ws = answer_words (answer_to m e) in
    let n = thirteen (answer_to m e) in
    let put = run_behind (take at out) ws out₀ out part at h refl t.left k.out in
    record {
      end = rw k.machine t.end;
      written = rw (k.machine, ← n, put.0, append_assoc (take at out) ws (words_of_answers (answers (after m e) rest))) t.written;
      left = rw (← n) put.1;
    }

-- the turn as the loop takes it: both slices are lent from an index on
pub next_turn : (start : Machine) (events : List Event) (out₀ : List ℕ) (m m' : Machine) (records : List ℕ) (count i : ℕ) (out part : List ℕ)
    → i < count → 13 * count ≤ length out
    → Turned start events out₀ m (events_in (count - i) (drop (8 * i) records)) (13 * i) out
    → TurnTaken m (event_of (take (length records - 8 * i) (drop (8 * i) records))) (take (length out - 13 * i) (drop (13 * i) out)) m' part
    → Turned start events out₀ m' (events_in (count - (i + 1)) (drop (8 * (i + 1)) records)) (13 * (i + 1))
    (take (13 * i) out ++ (part ++ drop (length out - 13 * i) (drop (13 * i) out)))
next_turn start events out₀ m m' records count i out part h room t k =
    let inside : 13 * i ≤ length out = omega arith in
    let n : 13 * (i + 1) ≡ 13 * i + 13 = omega arith in
    rw (n, lent_rest out part (13 * i) inside)
    (turned_by inside (rw (events_step count i records h) at t) (rw (rest_whole records (8 * i), rest_whole out (13 * i)) at k))

pub turned_at_start : (m : Machine) (records out : List ℕ) (count : ℕ) → Turned m (events_in count records) out m (events_in (count - 0) records) 0 out
turned_at_start m records out count = let n : count - 0 ≡ count = omega arith in rw n (record { end = refl; written = refl; left = refl })

pub judged_on : {judged : ℕ} {d : Drive} {sectors staging : List ℕ} {e : Event} {out : List ℕ} {d' : Drive} {sectors' staging' out' : List ℕ}
    → judged ≡ judgement d sectors staging → TurnTaken (machine d sectors staging) e out (machine d' sectors' staging') out' → judged ≡ judgement d' sectors' staging'
judged_on {d = d} {sectors} {staging} {e} j k =
    j ∙ sym (judged_after (machine d sectors staging) e) ∙ ap (λ (m : Machine). judgement m.drive m.sectors m.staging) (sym k.machine)

-- a list whose front is known and whose rest is as it was
pub whole_run : (out out₀ front : List ℕ) (n : ℕ) → n ≤ length out → take n out ≡ front → drop n out ≡ drop n out₀ → out ≡ written_over out₀ front
whole_run out out₀ front n h f r = rw (← f, length-take-le n out h, ← r) (sym (take-append-drop n out))

-- no event is left
pub turned_through : (d : Drive) (sectors staging out₀ records : List ℕ) (count i : ℕ) (d' : Drive) (sectors' staging' out : List ℕ)
    → i ≡ count → 13 * count ≤ length out
    → Turned (machine d sectors staging) (events_in count records) out₀ (machine d' sectors' staging') (events_in (count - i) (drop (8 * i) records)) (13 * i) out
    → Gone d (events_in count records) sectors staging out₀ d' sectors' staging' out
unfolding final answers words_of_answers events_in
turned_through d sectors staging out₀ records count i d' sectors' staging' out e room t =
    let z : count - i ≡ 0 = omega arith in
    let u = rw z at t in
    record { end = u.end; out = whole_run out out₀ _ (13 * i) (omega arith) (sym (append-nil (take (13 * i) out)) ∙ u.written) u.left }

-- ---- the refusals of a batch

no_room : (records out : List ℕ) → length out / 13 < record_count records → ltb (length out) (13 * record_count records) ≡ true
no_room records out h = lt-ltb (length out) (13 * record_count records) (omega arith)

room_for : (records out : List ℕ) → record_count records ≤ length out / 13 → ltb (length out) (13 * record_count records) ≡ false
room_for records out h = le-ltb (length out) (13 * record_count records) (omega arith)

pub out_too_short : (records out : List ℕ) → length out / 13 < record_count records → batch_refusal records out ≡ 10
unfolding pick
out_too_short records out h = rw (no_room records out h)

pub not_whole : (records out : List ℕ) → record_count records ≤ length out / 13 → (length records % 8 ≡ 0 → ⊥) → batch_refusal records out ≡ 8
unfolding pick
not_whole records out h n = rw (room_for records out h, ne_eqb (length records % 8) 0 n)

pub whole_with_room : (records out : List ℕ) → record_count records ≤ length out / 13 → length records % 8 ≡ 0 → batch_refusal records out ≡ 0
unfolding pick
whole_with_room records out h w = rw (room_for records out h, eq-eqb (length records % 8) 0 w)
