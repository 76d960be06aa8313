-- From what `replay_part` answers to the promise of `pg_replay`, and back.
-- Assumes nothing.
use Prim.Native.Nat.{ℕ, ◌<◌, ◌≤◌}
use mathlib.Core.Path.{◌≡◌, refl, sym, ap, ◌∙◌}
use mathlib.Core.List.{List, [], ◌∷◌}
use native.Mathlib.Omega.{arith}
use borrow.Author.Tests.{lt-ltb, le-ltb}
use lib.Dec.{ltb}
use lib.ListN.{length, get_or, set}
use Rattle.laws.specs.Pick.{pick}
use Rattle.laws.specs.Lists.{written_over}
use Rattle.laws.proofs.Rows.{none_given, rows_rest}
use Rattle.std.specs.Prelude.{Ok, Err}
use Rattle.refusals.specs.Refusal.{number}
use Rattle.refusals.specs.declared.refusal.Refusal.{Refusal}
use Rattle.refusals.proofs.OnPaper.{refusal_given, left_as_it_was}
use Rattle.events.specs.Part.{part_of, part_rows, part_refusal, PartOnWords}
use Rattle.events.proofs.Parts.{part_ran}
use Rattle.pantoglide.specs.Replay.{replay_refusal, ReplayOnWords, ReplayIsPart}

-- no room for the number
pub no_number : (state records : List ℕ) (from limit : ℕ) (sectors staging answers gaps ran : List ℕ) → length ran < 1
    → ReplayOnWords state records from limit sectors staging answers gaps ran 10 state sectors staging answers gaps ran
unfolding pick
no_number state records from limit sectors staging answers gaps ran h =
    record { refusal = rw (lt-ltb (length ran) 1 h); state = refl; sectors = refl; staging = refl; answers = refl; gaps = refl; ran = refl }

with_number : (state records : List ℕ) (from limit : ℕ) (answers gaps ran : List ℕ) → 1 ≤ length ran
    → part_refusal state records from limit answers gaps ≡ replay_refusal state records from limit answers gaps ran
unfolding pick
with_number state records from limit answers gaps ran h = rw (le-ltb (length ran) 1 h)

number_put : (ran : List ℕ) (count : ℕ) → 1 ≤ length ran → set ran 0 count ≡ written_over ran (count ∷ [])
number_put [] count h = absurd (omega arith)
number_put (x ∷ ran) count h = refl

pub replay_ran : {state records : List ℕ} {from limit : ℕ} {sectors staging answers gaps ran : List ℕ} {count : ℕ} {state' sectors' staging' answers' gaps' : List ℕ}
    → 1 ≤ length ran → PartOnWords state records from limit sectors staging answers gaps (Ok count) state' sectors' staging' answers' gaps'
    → ReplayOnWords state records from limit sectors staging answers gaps ran 0 state' sectors' staging' answers' gaps' (set ran 0 count)
replay_ran {state} {records} {from} {limit} {answers = answers} {gaps} {ran} {count} h p =
    let (size, passed) = part_ran p in
    record {
      refusal = sym (none_given (part_rows state records from limit answers gaps) passed) ∙ with_number state records from limit answers gaps ran h;
      state = p.state;
      sectors = p.sectors;
      staging = p.staging;
      answers = p.answers;
      gaps = p.gaps;
      ran = number_put ran count h ∙ ap (λ (n : ℕ). written_over ran (n ∷ [])) size;
    }

pub replay_refused : {state records : List ℕ} {from limit : ℕ} {sectors staging answers gaps ran : List ℕ} {refusal : Refusal} {state' sectors' staging' answers' gaps' : List ℕ}
    → 1 ≤ length ran → PartOnWords state records from limit sectors staging answers gaps (Err refusal) state' sectors' staging' answers' gaps'
    → ReplayOnWords state records from limit sectors staging answers gaps ran (number refusal) state' sectors' staging' answers' gaps' ran
replay_refused {state} {records} {from} {limit} {answers = answers} {gaps} {ran} {refusal} h p =
    let first_row = refusal_given (part_rows state records from limit answers gaps) refusal (length (part_of records from limit)) p.answer in
    record {
      refusal = sym first_row ∙ with_number state records from limit answers gaps ran h;
      state = p.state;
      sectors = p.sectors;
      staging = p.staging;
      answers = p.answers;
      gaps = p.gaps;
      ran = sym (left_as_it_was refusal _ refl);
    }

pub replay_is_part : ReplayIsPart
replay_is_part =
    record {
      same = λ {state} {records} {from} {limit} {answers = answers} {gaps} {ran = ran} h.
          let rest = rows_rest (ltb (length ran) 1) 9 (part_refusal state records from limit answers gaps) (sym h.refusal) in
          let count = ap (λ (l : List ℕ). get_or l 0 0) h.ran in
          record { answer = rw (rest, count); state = h.state; sectors = h.sectors; staging = h.staging; answers = h.answers; gaps = h.gaps };
    }
