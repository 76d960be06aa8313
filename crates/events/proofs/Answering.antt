-- An event on any words of a state: what is answered is what the rule says.
-- Assumes nothing.
use Rattle.std.proofs.Common.{◌≡◌, ℕ, ◌≤◌, Bool, List, length, sym, refl, ap, ◌∙◌}
use Rattle.refusals.specs.Refusal.{number, named}
use Rattle.refusals.specs.declared.refusal.Refusal.{Refusal}
use Rattle.refusals.proofs.OnPaper.{of_its_number, number_is_not_0}
use Rattle.parts.specs.declared.event.Event.{Event}
use Rattle.drive.specs.State.{Result}
use Rattle.drive.specs.Event.{handled}
use Rattle.drive.specs.Run.{answer_to, after}
use Rattle.drive.specs.Able.{judgement}
use Rattle.drive.specs.declared.answer.Answer.{Answer}
use Rattle.drive.specs.declared.answer.Answer.TheVariants.{Refused}
use Rattle.drive.proofs.Turns.{refused_as_judged}
use Rattle.events.specs.State.{drive_in, state_after}
use Rattle.events.specs.Turn.{Telling, Answered, Turn}
use Rattle.events.specs.Fit.{Fits, DidIn}
use Rattle.events.proofs.Done.{fit, known}
use Rattle.events.proofs.Goes.{moved_known, unmoved}

pub answered_refused : (e : Event) (state sectors staging : List ℕ) (refusal : Refusal) → 21 ≤ length state → number refusal ≡ judgement (drive_in state) sectors staging
    → Answered e state sectors staging (Refused refusal) state sectors staging
unfolding answer_to after
answered_refused e state sectors staging refusal h j =
    let r = refused_as_judged (drive_in state) e sectors staging (λ y. number_is_not_0 refusal (j ∙ y)) in
    record {
      answer = ap Refused (sym (of_its_number refusal) ∙ ap named j) ∙ sym (ap (λ (x : Result). x.outcome.answer) r);
      state = sym (unmoved state h) ∙ sym (ap (λ (x : Result). state_after state x.outcome.drive) r);
      sectors = sym (ap (λ (x : Result). x.sectors) r);
      staging = sym (ap (λ (x : Result). x.staging) r);
    }

pub answered_stepped : {e : Event} {state sectors staging : List ℕ} {r : Answer} {state' sectors' staging' : List ℕ} → Fits state sectors staging
    → DidIn state (handled (drive_in state) e sectors staging) r state' sectors' staging' → Answered e state sectors staging r state' sectors' staging'
unfolding answer_to after
answered_stepped {state = state} f d =
    record { answer = d.answer; state = d.state ∙ sym (moved_known state _ (known (fit f))); sectors = d.sectors; staging = d.staging }

pub turn_told : {telling : Bool} {e : Event} {state sectors staging out : List ℕ} {r : Answer} {n : ℕ} {state' sectors' staging' out' : List ℕ}
    → Answered e state sectors staging r state' sectors' staging' → Telling telling r out n out' → Turn telling e state sectors staging out n state' sectors' staging' out'
turn_told a t =
    record { answered = record { answer = refl; state = a.state; sectors = a.sectors; staging = a.staging }; told = rw a.answer at t }

-- the same of a step, on a state that rows 11 and 10 let pass
pub step_told : {telling : Bool} {e : Event} {state sectors staging out : List ℕ} {r : Answer} {n : ℕ} {state' sectors' staging' out' : List ℕ} → Fits state sectors staging
    → DidIn state (handled (drive_in state) e sectors staging) r state' sectors' staging' → Telling telling r out n out'
    → Turn telling e state sectors staging out n state' sectors' staging' out'
step_told f d t = turn_told (answered_stepped f d) t
