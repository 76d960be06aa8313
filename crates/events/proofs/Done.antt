-- How a kind on words meets its contract: its own rows refuse it and the words stay, or none does and it did its work.
-- Assumes nothing.
use Rattle.std.proofs.Common.{◌≡◌, ℕ, Bool, true, false, ltb, List, sym, refl, ap, ◌∙◌, true≢false}
use Rattle.laws.specs.Pick.{pick}
use Rattle.laws.specs.Rows.{first}
use Rattle.refusals.specs.Refusal.{number}
use Rattle.refusals.specs.declared.refusal.Refusal.{Refusal}
use Rattle.parts.specs.Holding.{nobody}
use Rattle.parts.specs.declared.kind.Kind.{Kind}
use Rattle.parts.specs.declared.event.Event.{Event}
use Rattle.drive.specs.State.{Result, result, told}
use Rattle.drive.specs.Refusal.{own_rows}
use Rattle.drive.specs.Able.{unless_own_row, unless_own_row_in}
use Rattle.drive.specs.declared.answer.Outcome.{Outcome}
use Rattle.drive.specs.declared.answer.Answer.{Answer}
use Rattle.drive.specs.declared.answer.Answer.TheVariants.{Refused}
use Rattle.drive.proofs.Own.{own_refused, own_accepted, own_refused_in, own_accepted_in}
use Rattle.drive.proofs.Sound.{sound}
use Rattle.events.specs.State.{hold_is_known, selected_in, drive_in, moved_to}
use Rattle.events.specs.Fit.{Fit, Fits, Did, DidIn}
use Rattle.events.proofs.Changes.{kept}

pub fit : {state sectors staging : List ℕ} → Fits state sectors staging → Fit state
fit f = record { long = f.long; sound = f.passable.sound }

-- the hold of a state that row 11 lets pass is one of the three
pub known : {state : List ℕ} → Fit state → hold_is_known state ≡ true
unfolding drive_in selected_in pick
known {state} f = by_test (hold_is_known state) refl (sound (drive_in state) f.sound).selected
  where
    by_test : (test : Bool) → hold_is_known state ≡ test → ltb nobody (drive_in state).holding.selected ≡ false → hold_is_known state ≡ true
    by_test true e h = e
    by_test false e h = absurd (true≢false (rw e at h))

pub stays : {state : List ℕ} → Fit state → state ≡ moved_to state (drive_in state)
stays {state} f = sym (kept state f.long (known f))

pub did_nothing : {state : List ℕ} (answer : Answer) → Fit state → Did state (told answer (drive_in state)) answer state
did_nothing answer f = record { answer = refl; state = stays f }

-- the outcome is another one that equals it
pub did_as : {state state' : List ℕ} {r : Answer} (o x : Outcome) → o ≡ x → Did state o r state' → Did state x r state'
did_as {state} o x e d = record { answer = d.answer ∙ ap (λ (y : Outcome). y.answer) e; state = d.state ∙ ap (λ (y : Outcome). moved_to state y.drive) e }

pub did_as_in : {state state' sectors' staging' : List ℕ} {r : Answer} (o x : Result) → o ≡ x → DidIn state o r state' sectors' staging'
    → DidIn state x r state' sectors' staging'
did_as_in {state} o x e d =
    record {
      answer = d.answer ∙ ap (λ (y : Result). y.outcome.answer) e;
      state = d.state ∙ ap (λ (y : Result). moved_to state y.outcome.drive) e;
      sectors = d.sectors ∙ ap (λ (y : Result). y.sectors) e;
      staging = d.staging ∙ ap (λ (y : Result). y.staging) e;
    }

-- a kind that leaves the lent words
pub did_in : {state state' : List ℕ} {r : Answer} {o : Outcome} (sectors staging : List ℕ) → Did state o r state'
    → DidIn state (result o sectors staging) r state' sectors staging
did_in sectors staging d = record { answer = d.answer; state = d.state; sectors = refl; staging = refl }

pub did_refused : (k : Kind) (state : List ℕ) (e : Event) (accepted : Outcome) (refusal : Refusal) → Fit state → number refusal ≡ first (own_rows k (drive_in state) e)
    → Did state (unless_own_row k (drive_in state) e accepted) (Refused refusal) state
did_refused k state e accepted refusal f p = did_as _ _ (own_refused k (drive_in state) e accepted refusal p) (did_nothing (Refused refusal) f)

pub did_accepted : (k : Kind) (state : List ℕ) (e : Event) (accepted : Outcome) {r : Answer} {state' : List ℕ}
    → 0 ≡ first (own_rows k (drive_in state) e) → Did state accepted r state' → Did state (unless_own_row k (drive_in state) e accepted) r state'
did_accepted k state e accepted p d = did_as _ _ (own_accepted k (drive_in state) e accepted p) d

pub did_refused_in : (k : Kind) (state : List ℕ) (e : Event) (sectors staging : List ℕ) (accepted : Result) (refusal : Refusal) → Fit state
    → number refusal ≡ first (own_rows k (drive_in state) e)
    → DidIn state (unless_own_row_in k (drive_in state) e sectors staging accepted) (Refused refusal) state sectors staging
did_refused_in k state e sectors staging accepted refusal f p =
    did_as_in _ _ (own_refused_in k (drive_in state) e sectors staging accepted refusal p) (did_in sectors staging (did_nothing (Refused refusal) f))

pub did_accepted_in : (k : Kind) (state : List ℕ) (e : Event) (sectors staging : List ℕ) (accepted : Result) {r : Answer} {state' sectors' staging' : List ℕ}
    → 0 ≡ first (own_rows k (drive_in state) e) → DidIn state accepted r state' sectors' staging'
    → DidIn state (unless_own_row_in k (drive_in state) e sectors staging accepted) r state' sectors' staging'
did_accepted_in k state e sectors staging accepted p d =
    did_as_in _ _ (own_accepted_in k (drive_in state) e sectors staging accepted p) d

-- by a test that a callee answered
pub did_first : (test r : Bool) (a b : Outcome) {answer : Answer} {state state' : List ℕ} → r ≡ test → r ≡ true → Did state a answer state'
    → Did state (pick test a b) answer state'
unfolding pick
did_first test r a b e t d = rw (sym e ∙ t) d

pub did_second : (test r : Bool) (a b : Outcome) {answer : Answer} {state state' : List ℕ} → r ≡ test → r ≡ false → Did state b answer state'
    → Did state (pick test a b) answer state'
unfolding pick
did_second test r a b e t d = rw (sym e ∙ t) d
