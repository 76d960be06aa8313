-- From what a reader of a trace answers to the promise of `pg_lines` and `pg_lines_plain`, whatever it reads by.
-- Assumes nothing.
use Prim.Native.Nat.{ℕ, ◌<◌, ◌≤◌}
use mathlib.Core.Path.{◌≡◌, refl, sym, ap, ◌∙◌}
use mathlib.Core.List.{List}
use borrow.Author.Tests.{lt-ltb}
use lib.ListN.{length, get_or}
use Rattle.std.specs.Prelude.{Result, Ok, Err, MatchResult}
use Rattle.laws.specs.Pick.{pick}
use Rattle.refusals.specs.Refusal.{number}
use Rattle.refusals.specs.declared.refusal.Refusal.{Refusal}
use Rattle.refusals.proofs.OnPaper.{value_given, refusal_given, left_as_it_was}
use Rattle.lines.specs.Reading.{Read, read_rows, TraceRead}
use Rattle.lines.specs.declared.follower.Follower.{Follower}
use Rattle.pantoglide.specs.Line.{follower_in}
use Rattle.pantoglide.specs.Lines.{octet_left, LinesRead}
use Rattle.pantoglide.proofs.Lines.{with_octet}

pub no_octet : (read : Follower → List ℕ → Read) (follower trace answers : List ℕ) → length follower < 1 → LinesRead read follower trace answers 10 follower answers
unfolding pick
no_octet read follower trace answers h = record { refusal = rw (lt-ltb (length follower) 1 h); follower = refl; answers = refl }

module _ (read : Follower → List ℕ → Read) (follower trace answers : List ℕ) (there : 1 ≤ length follower) where
  abbrev whole : Read
  whole = read (follower_in (get_or follower 0 0)) trace

  trace_followed : {last : Follower} {answers' : List ℕ} → TraceRead whole trace answers (Ok last) answers'
      → LinesRead read follower trace answers 0 (octet_left follower last) answers'
  trace_followed {last} t =
      let rows = read_rows trace answers in
      let given = value_given rows t.answer in
      record {
        refusal = sym (with_octet follower rows there ∙ given.0);
        follower = ap (octet_left follower) given.1;
        answers = rw given.0 at t.answers;
      }

  trace_refused_lem : {refusal : Refusal} {answers' : List ℕ} → TraceRead whole trace answers (Err refusal) answers'
      → LinesRead read follower trace answers (number refusal) follower answers'
  trace_refused_lem {refusal} t =
      let rows = read_rows trace answers in
      let given = refusal_given rows refusal whole.last t.answer in
      record {
        refusal = sym (with_octet follower rows there ∙ given);
        follower = sym (left_as_it_was refusal _ refl);
        answers = rw given at t.answers;
      }

  pub trace_told : (r : Result Follower Refusal) {n : ℕ} {follower' answers' : List ℕ} → TraceRead whole trace answers r answers'
      → MatchResult r (λ last. (n ≡ 0) × (follower' ≡ octet_left follower last)) (λ refusal. (n ≡ number refusal) × (follower' ≡ follower))
      → LinesRead read follower trace answers n follower' answers'
  trace_told (Ok last) t (z, e) = rw (z, e) (trace_followed t)
  trace_told (Err refusal) t (z, e) = rw (z, e) (trace_refused_lem t)
