-- From what a kind did on the words to the whole rule, on a state that rows 11 and 10 let pass.
-- Assumes nothing.
use Rattle.std.proofs.Common.{◌≡◌, ℕ, true, false, List, sym, refl}
use Rattle.refusals.specs.declared.refusal.Refusal.TheVariants.{NoSuchPort, Malformed}
use Rattle.parts.specs.Kind.{kind_of}
use Rattle.parts.specs.declared.kind.Kind.{Kind}
use Rattle.parts.specs.declared.kind.Kind.TheVariants.{Unknown}
use Rattle.parts.specs.declared.event.Event.{Event}
use Rattle.drive.specs.State.{result}
use Rattle.drive.specs.Refusal.{row1}
use Rattle.drive.specs.Event.{act, handled}
use Rattle.drive.specs.Able.{unless_own_row, unless_own_row_in}
use Rattle.drive.specs.declared.answer.Answer.{Answer}
use Rattle.drive.specs.declared.answer.Outcome.{Outcome}
use Rattle.drive.specs.declared.answer.Answer.TheVariants.{Refused}
use Rattle.drive.proofs.Step.{handled_by_kind, handled_quietly, refused_with_1, refused_with_8}
use Rattle.events.specs.State.{drive_in}
use Rattle.events.specs.Fit.{Fits, Did, DidIn}
use Rattle.events.proofs.Done.{did_as_in, did_in, did_nothing, fit}

-- a kind that leaves the lent words
pub stepped : (state : List ℕ) (e : Event) (sectors staging : List ℕ) (k : Kind) (accepted : Outcome) {r : Answer} {state' : List ℕ} → Fits state sectors staging
    → row1 e ≡ false → kind_of e.kind ≡ k → Did state (unless_own_row k (drive_in state) e accepted) r state'
    → act k (drive_in state) e sectors staging ≡ result accepted sectors staging → DidIn state (handled (drive_in state) e sectors staging) r state' sectors staging
stepped state e sectors staging k accepted f p z d a =
    did_as_in _ _ (handled_quietly (drive_in state) e sectors staging k accepted _ f.passable p z refl a) (did_in sectors staging d)

pub stepped_in : (state : List ℕ) (e : Event) (sectors staging : List ℕ) (k : Kind) {r : Answer} {state' sectors' staging' : List ℕ} → Fits state sectors staging
    → row1 e ≡ false → kind_of e.kind ≡ k
    → DidIn state (unless_own_row_in k (drive_in state) e sectors staging (act k (drive_in state) e sectors staging)) r state' sectors' staging'
    → DidIn state (handled (drive_in state) e sectors staging) r state' sectors' staging'
stepped_in state e sectors staging k f p z d = did_as_in _ _ (sym (handled_by_kind (drive_in state) e sectors staging k f.passable p z)) d

pub refused_1 : (state : List ℕ) (e : Event) (sectors staging : List ℕ) → Fits state sectors staging → row1 e ≡ true
    → DidIn state (handled (drive_in state) e sectors staging) (Refused NoSuchPort) state sectors staging
refused_1 state e sectors staging f p =
    did_as_in _ _ (sym (refused_with_1 (drive_in state) e sectors staging f.passable p)) (did_in sectors staging (did_nothing (Refused NoSuchPort) (fit f)))

pub refused_8 : (state : List ℕ) (e : Event) (sectors staging : List ℕ) → Fits state sectors staging → row1 e ≡ false → kind_of e.kind ≡ Unknown
    → DidIn state (handled (drive_in state) e sectors staging) (Refused Malformed) state sectors staging
refused_8 state e sectors staging f p z =
    did_as_in _ _ (sym (refused_with_8 (drive_in state) e sectors staging f.passable p z)) (did_in sectors staging (did_nothing (Refused Malformed) (fit f)))
