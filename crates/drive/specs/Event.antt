-- An event: what an accepted one does, kind by kind, and the whole rule.
use Rattle.std.specs.Prelude.{ℕ, ◌≡◌, List}
use Rattle.laws.specs.Rows.{unless_refused}
use Rattle.refusals.specs.Refusal.{named}
use Rattle.drive.specs.Answer.{paper, Says}
use Rattle.drive.specs.State.{told, Result, result}
use Rattle.status.specs.declared.drive_status.DriveStatus.TheVariants.{Normal}
use Rattle.parts.specs.Kind.{kind_of, word_of, place_of}
use Rattle.parts.specs.declared.kind.Kind.{Kind}
use Rattle.parts.specs.declared.kind.Kind.TheVariants.{Select, Deselect, Use, Reset, Unknown}
use Rattle.parts.specs.declared.kind.Work.TheVariants.{DataControl, WordFromHost, TakeWord, End, Position, Target, ReadStatus}
use Rattle.drive.specs.Refusal.{refusal_of}
use Rattle.drive.specs.Drive.{selected, deselected, after_reset}
use Rattle.drive.specs.Request.{data_control, positioned, targeted, status_read}
use Rattle.drive.specs.Command.{word_from_host, word_to_host, ended_early}
use Rattle.drive.specs.declared.drive.Drive.{Drive}
use Rattle.parts.specs.declared.event.Event.{Event}
use Rattle.drive.specs.declared.answer.Outcome.{Outcome}
use Rattle.drive.specs.declared.answer.Answer.TheVariants.{Refused, Done, Status}

abbrev pub act : Kind → Drive → Event → List ℕ → List ℕ → Result
act Select d e sectors staging = result (told Done (selected d e.port e.a0)) sectors staging
act Deselect d e sectors staging = result (told Done (deselected d)) sectors staging
act Reset d e sectors staging = result (told Done (after_reset d)) sectors staging
act (Use DataControl) d e sectors staging = result (data_control d e.port e.a0) sectors staging
act (Use WordFromHost) d e sectors staging = word_from_host d e.port (word_of e) sectors staging
act (Use TakeWord) d e sectors staging = result (word_to_host d e.port sectors) sectors staging
-- "a finished transfer, End and Step Head give 0"
act (Use End) d e sectors staging = result (told (Status Normal) (ended_early d)) sectors staging
act (Use Position) d e sectors staging = result (positioned d e.port (place_of e)) sectors staging
act (Use Target) d e sectors staging = result (targeted d e.port (word_of e)) sectors staging
act (Use ReadStatus) d e sectors staging = result (status_read d e.port) sectors staging
act Unknown d e sectors staging = result (told Done d) sectors staging

-- "A refusal reports its number and nothing else, and changes nothing."
abbrev pub refused_with : ℕ → Drive → List ℕ → List ℕ → Result
refused_with n d sectors staging = result (told (Refused (named n)) d) sectors staging

unfoldable pub handled : Drive → Event → List ℕ → List ℕ → Result
handled d e sectors staging =
    let k = kind_of e.kind in
    let n = refusal_of k d e sectors staging in
    unless_refused n (refused_with n d sectors staging) (act k d e sectors staging)

-- The promise of `handle` of `events`: the answer, also in the paper's words, the drive, all sector words and all staging words.
pub record Handled (d : Drive) (e : Event) (sectors₀ staging₀ : List ℕ) (r : Outcome) (sectors₁ staging₁ : List ℕ) : Type 0 where
  pub answer : r.answer ≡ (handled d e sectors₀ staging₀).outcome.answer
  pub says : Says r.answer (paper (handled d e sectors₀ staging₀).outcome.answer)
  pub drive : r.drive ≡ (handled d e sectors₀ staging₀).outcome.drive
  pub sectors : sectors₁ ≡ (handled d e sectors₀ staging₀).sectors
  pub staging : staging₁ ≡ (handled d e sectors₀ staging₀).staging
