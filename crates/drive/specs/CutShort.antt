-- "A write cut short at any word writes nothing", said of the machine itself, from any state.
use Rattle.std.specs.Prelude.{ℕ, zero, suc, ◌<◌, ◌≡◌, Bool, true, false, List, [], ◌∷◌}
use Rattle.parts.specs.Control.{control_of, is_write}
use Rattle.parts.specs.declared.kind.Kind.TheVariants.{Select, Use, Reset}
use Rattle.parts.specs.declared.kind.Work.{Work}
use Rattle.parts.specs.declared.kind.Work.TheVariants.{WordFromHost, End}
use Rattle.parts.specs.declared.setup.Place.{Place}
use Rattle.parts.specs.declared.event.Event.{Event}
use Rattle.drive.specs.Accepted.{is_refused}
use Rattle.drive.specs.Run.{Machine, answer_to, after, answers, final}
use Rattle.drive.specs.Sessions.{Is}
use Rattle.drive.specs.declared.answer.Answer.{Answer}
use Rattle.drive.specs.declared.answer.Answer.TheVariants.{Refused, Done, Status, Opened, Word, LastWord, Response}

-- This event was answered with the opening of a write.
abbrev pub opens_write : Event → Answer → Bool
opens_write e (Opened words place) = is_write (control_of e.a0)
opens_write e (Refused refusal) = false
opens_write e Done = false
opens_write e (Status status) = false
opens_write e (Word word) = false
opens_write e (LastWord word) = false
opens_write e (Response octet0 octet1 octet2) = false

-- So many words passed one after another this way, from the host or to it, with any refused events between them.
pub data Words (way : Work) : Machine → List Event → ℕ → Type 0 where
  none : {m : Machine} → Words way m [] zero
  refused : {m : Machine} {e : Event} {events : List Event} {k : ℕ} → is_refused (answer_to m e) ≡ true → Words way (after m e) events k → Words way m (e ∷ events) k
  word : {m : Machine} {e : Event} {events : List Event} {k : ℕ} → is_refused (answer_to m e) ≡ false → Is (Use way) e → Words way (after m e) events k
      → Words way m (e ∷ events) (suc k)

-- What cuts the write: End, a takeover or a reset. A selection that is accepted while a write is open is the other port's.
pub data Cuts (m : Machine) (e : Event) : Type 0 where
  by_end : Is (Use End) e → is_refused (answer_to m e) ≡ false → Cuts m e
  by_takeover : Is Select e → is_refused (answer_to m e) ≡ false → Cuts m e
  by_reset : Is Reset e → is_refused (answer_to m e) ≡ false → Cuts m e

-- None of these events opens a write.
abbrev pub OpensNoWrite : List Event → List Answer → Type 0
OpensNoWrite [] told = Unit
OpensNoWrite (e ∷ events) [] = Unit
OpensNoWrite (e ∷ events) (answer ∷ told) = (opens_write e answer ≡ false) × OpensNoWrite events told

pub record CutShort : Type 0 where
  -- A transfer was opened with n words to come, and fewer were accepted from the host: the sectors are those before the opening, word for word.
  pub unfinished : (m : Machine) (opening : Event) {n k : ℕ} {place : Place} {sent : List Event} → answer_to m opening ≡ Opened n place
      → Words WordFromHost (after m opening) sent k → k < n → (final (after m opening) sent).sectors ≡ m.sectors
  -- It was cut then: so they are afterwards, whatever comes, until another write is opened. Nothing of that write is completed.
  pub cut : (m : Machine) (opening cut : Event) {n k : ℕ} {place : Place} {sent : List Event} → answer_to m opening ≡ Opened n place
      → Words WordFromHost (after m opening) sent k → k < n → Cuts (final (after m opening) sent) cut
      → (later : List Event) → let end = after (final (after m opening) sent) cut in
      OpensNoWrite later (answers end later) → (final end later).sectors ≡ m.sectors
