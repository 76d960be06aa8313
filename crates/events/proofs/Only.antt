-- No second answer: two outcomes that satisfy what a call promises are equal, the number and every lent word.
-- Assumes nothing.
use Rattle.std.proofs.Common.{◌≡◌, ℕ, List}
use Rattle.laws.proofs.Only.{answer_only}
use Rattle.std.specs.Prelude.{Result}
use Rattle.refusals.proofs.OnPaper as given
use Rattle.refusals.specs.declared.refusal.Refusal.{Refusal}
use Rattle.parts.specs.declared.setup.Setup.{Setup}
use Rattle.parts.specs.declared.event.Event.{Event}
use Rattle.events.specs.Power.{PoweredUpOnWords}
use Rattle.events.specs.Event.{EventOnWords}
use Rattle.events.specs.Run.{RunOnWords}
use Rattle.events.specs.Part.{PartOnWords}

pub power_up_words_only : {s : Setup} {sectors staging state : List ℕ} {r r' : ℕ} {state' state'' : List ℕ} → PoweredUpOnWords s sectors staging state r state'
    → PoweredUpOnWords s sectors staging state r' state'' → (r ≡ r') × (state' ≡ state'')
power_up_words_only h k = (answer_only h.answer k.answer, answer_only h.state k.state)

pub answer_event_only : {state : List ℕ} {e : Event} {sectors staging answer : List ℕ} {r r' : ℕ} {state' sectors' staging' answer' state'' sectors'' staging'' answer'' : List ℕ}
    → EventOnWords state e sectors staging answer r state' sectors' staging' answer' → EventOnWords state e sectors staging answer r' state'' sectors'' staging'' answer''
    → (r ≡ r') × (state' ≡ state'') × (sectors' ≡ sectors'') × (staging' ≡ staging'') × (answer' ≡ answer'')
answer_event_only h k =
    let e = answer_only h.refusal k.refusal in (
      e,
      answer_only (rw e at h.state) k.state,
      answer_only (rw e at h.sectors) k.sectors,
      answer_only (rw e at h.staging) k.staging,
      answer_only (rw e at h.answer) k.answer,
    )

pub run_records_only : {state records sectors staging out : List ℕ} {r r' : ℕ} {state' sectors' staging' out' state'' sectors'' staging'' out'' : List ℕ}
    → RunOnWords state records sectors staging out r state' sectors' staging' out' → RunOnWords state records sectors staging out r' state'' sectors'' staging'' out''
    → (r ≡ r') × (state' ≡ state'') × (sectors' ≡ sectors'') × (staging' ≡ staging'') × (out' ≡ out'')
run_records_only h k =
    let e = answer_only h.refusal k.refusal in (
      e,
      answer_only (rw e at h.state) k.state,
      answer_only (rw e at h.sectors) k.sectors,
      answer_only (rw e at h.staging) k.staging,
      answer_only (rw e at h.out) k.out,
    )

pub part_only : {state records : List ℕ} {from limit : ℕ} {sectors staging answers gaps : List ℕ} {r r' : Result ℕ Refusal}
    {state' sectors' staging' answers' gaps' state'' sectors'' staging'' answers'' gaps'' : List ℕ}
    → PartOnWords state records from limit sectors staging answers gaps r state' sectors' staging' answers' gaps'
    → PartOnWords state records from limit sectors staging answers gaps r' state'' sectors'' staging'' answers'' gaps''
    → (r ≡ r') × (state' ≡ state'') × (sectors' ≡ sectors'') × (staging' ≡ staging'') × (answers' ≡ answers'') × (gaps' ≡ gaps'')
part_only h k =
    let e = given.answer_only h.answer k.answer in (
      e,
      answer_only (rw e at h.state) k.state,
      answer_only (rw e at h.sectors) k.sectors,
      answer_only (rw e at h.staging) k.staging,
      answer_only (rw e at h.answers) k.answers,
      answer_only (rw e at h.gaps) k.gaps,
    )
