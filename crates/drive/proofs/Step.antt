-- From a kind's own outcome to the whole rule, on a state that rows 11 and 10 let pass.
-- Assumes nothing.
use Prim.Native.Nat.{ℕ, zero, suc}
use mathlib.Core.Path.{◌≡◌, refl, ap}
use mathlib.Core.Bool.{true, false}
use mathlib.Core.List.{List}
use Rattle.laws.specs.Pick.{pick}
use Rattle.laws.specs.Rows.{first, unless_refused}
use Rattle.refusals.specs.Refusal.{named}
use Rattle.parts.specs.Kind.{kind_of}
use Rattle.parts.specs.declared.kind.Kind.{Kind}
use Rattle.parts.specs.declared.kind.Kind.TheVariants.{Unknown}
use Rattle.drive.specs.Answer.{paper, Says}
use Rattle.drive.specs.State.{told, Result, result}
use Rattle.drive.specs.Refusal.{row1, row10, row11, own_rows, refusal_of}
use Rattle.drive.specs.Event.{act, refused_with, handled, Handled}
use Rattle.drive.specs.Able.{Passable, unless_own_row, unless_own_row_in}
use Rattle.drive.specs.declared.drive.Drive.{Drive}
use Rattle.parts.specs.declared.event.Event.{Event}
use Rattle.drive.specs.declared.answer.Answer.{Answer}
use Rattle.drive.specs.declared.answer.Outcome.{Outcome}
use Rattle.drive.specs.declared.answer.Answer.TheVariants.{Refused}

-- rows 11, 10 and 1 do not hold: the kind's own rows decide
pub handled_by_kind : (d : Drive) (e : Event) (sectors staging : List ℕ) (k : Kind) → Passable d sectors staging → row1 e ≡ false → kind_of e.kind ≡ k
    → handled d e sectors staging ≡ unless_own_row_in k d e sectors staging (act k d e sectors staging)
unfolding handled refusal_of unless_own_row_in pick
handled_by_kind d e sectors staging k p h z = rw (z, p.sound, p.room, h)

outcome_only : (n : ℕ) (d : Drive) (sectors staging : List ℕ) (accepted : Outcome)
    → result (unless_refused n (told (Refused (named n)) d) accepted) sectors staging ≡ unless_refused n (refused_with n d sectors staging) (result accepted sectors staging)
outcome_only zero d sectors staging accepted = refl
outcome_only (suc n) d sectors staging accepted = refl

-- a kind that leaves the lent words
pub handled_quietly : (d : Drive) (e : Event) (sectors staging : List ℕ) (k : Kind) (accepted r : Outcome)
    → Passable d sectors staging → row1 e ≡ false → kind_of e.kind ≡ k → r ≡ unless_own_row k d e accepted
    → act k d e sectors staging ≡ result accepted sectors staging → result r sectors staging ≡ handled d e sectors staging
unfolding unless_own_row unless_own_row_in
handled_quietly d e sectors staging k accepted r p h z q a =
    rw (handled_by_kind d e sectors staging k p h z, a, q) (outcome_only (first (own_rows k d e)) d sectors staging accepted)

-- the refusals that come before the kind's own
pub refused_with_11 : (d : Drive) (e : Event) (sectors staging : List ℕ) → row11 d ≡ true → handled d e sectors staging ≡ refused_with 11 d sectors staging
unfolding handled refusal_of pick
refused_with_11 d e sectors staging h = rw h

pub refused_with_10 : (d : Drive) (e : Event) (sectors staging : List ℕ) → row11 d ≡ false → row10 d.setup sectors staging ≡ true
    → handled d e sectors staging ≡ refused_with 10 d sectors staging
unfolding handled refusal_of pick
refused_with_10 d e sectors staging h r = rw (h, r)

pub refused_with_1 : (d : Drive) (e : Event) (sectors staging : List ℕ) → Passable d sectors staging → row1 e ≡ true
    → handled d e sectors staging ≡ refused_with 1 d sectors staging
unfolding handled refusal_of pick
refused_with_1 d e sectors staging p h = rw (p.sound, p.room, h)

pub refused_with_8 : (d : Drive) (e : Event) (sectors staging : List ℕ) → Passable d sectors staging → row1 e ≡ false → kind_of e.kind ≡ Unknown
    → handled d e sectors staging ≡ refused_with 8 d sectors staging
unfolding unless_own_row_in pick
refused_with_8 d e sectors staging p h z = handled_by_kind d e sectors staging Unknown p h z

-- equal answers say the same in the paper's words
pub says_as : {a b : Answer} → a ≡ b → Says a (paper b)
says_as p =
    record {
      refusal = ap (λ (x : Answer). (paper x).refusal) p;
      status = ap (λ (x : Answer). (paper x).status) p;
      word_count = ap (λ (x : Answer). (paper x).word_count) p;
      place = ap (λ (x : Answer). (paper x).place) p;
      word = ap (λ (x : Answer). (paper x).word) p;
      response = ap (λ (x : Answer). (paper x).response) p;
    }

-- the whole rule, as the promise has it
pub as_promised : {d : Drive} {e : Event} {sectors staging : List ℕ} {r : Outcome} {sectors' staging' : List ℕ}
    → result r sectors' staging' ≡ handled d e sectors staging → Handled d e sectors staging r sectors' staging'
as_promised p =
    record {
      answer = ap (λ (x : Result). x.outcome.answer) p;
      says = says_as (ap (λ (x : Result). x.outcome.answer) p);
      drive = ap (λ (x : Result). x.outcome.drive) p;
      sectors = ap (λ (x : Result). x.sectors) p;
      staging = ap (λ (x : Result). x.staging) p;
    }
