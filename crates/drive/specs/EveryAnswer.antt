-- Demand 1: "Every event on either port, from any caller with any arguments, gets one of the answers in document 01."
use Rattle.std.specs.Prelude.{ℕ, ◌≡◌, true, List, [], ◌∷◌}
use Rattle.laws.specs.Lists.{one_of}
use Rattle.refusals.specs.Refusal.{number}
use Rattle.refusals.specs.declared.refusal.Refusal.{Refusal}
use Rattle.status.specs.declared.drive_status.DriveStatus.TheVariants.{Normal, HeaderMiscompare, OperationException}
use Rattle.status.specs.DriveStatus.{octet_of}
use Rattle.status.specs.declared.drive_status.DriveStatus.{DriveStatus}
use Rattle.parts.specs.Kind.{kind_of}
use Rattle.parts.specs.declared.kind.Kind.{Kind}
use Rattle.parts.specs.declared.kind.Kind.TheVariants.{Select, Deselect, Use, Reset}
use Rattle.parts.specs.declared.kind.Work.TheVariants.{DataControl, WordFromHost, TakeWord, End, Position, Target, ReadStatus}
use Rattle.parts.specs.declared.setup.Place.{Place}
use Rattle.parts.specs.declared.event.Event.{Event}
use Rattle.drive.specs.Event.{handled}
use Rattle.drive.specs.declared.drive.Drive.{Drive}
use Rattle.drive.specs.declared.answer.Answer.{Answer}
use Rattle.drive.specs.declared.answer.Answer.TheVariants.{Refused, Done, Status, Opened, Word, LastWord, Response}

-- "For kinds 3, 7, 8, in order: any pending bit in response octet 1 gives C ..; then a bad request gives 8 .. Otherwise kinds 7 and 8 give 0".
abbrev pub request_statuses : List ℕ
request_statuses = 0 ∷ 8 ∷ 0xC ∷ []

-- The answers to an accepted event, by its kind.
pub data Accepted : Kind → Answer → Type 0 where
  -- "Kinds 1, 2 and 10 .. carry no status."
  selected : Accepted Select Done
  deselected : Accepted Deselect Done
  reset : Accepted Reset Done
  -- "The answer that opens a transfer tells the number of words to come and the place."
  opened : {words : ℕ} {place : Place} → Accepted (Use DataControl) (Opened words place)
  controlled : {status : DriveStatus} → one_of request_statuses (octet_of status) ≡ true → Accepted (Use DataControl) (Status status)
  -- "a word before the last carr[ies] no status"; the last one 0, and a header that differs 7.
  more : Accepted (Use WordFromHost) Done
  finished : Accepted (Use WordFromHost) (Status Normal)
  miscompared : Accepted (Use WordFromHost) (Status HeaderMiscompare)
  -- A command that is bad: 8, at its last word.
  disobeyed : Accepted (Use WordFromHost) (Status OperationException)
  -- "Take answers the next word."
  taken : {word : ℕ} → Accepted (Use TakeWord) (Word word)
  last_taken : {word : ℕ} → Accepted (Use TakeWord) (LastWord word)
  -- "a finished transfer, End and Step Head give 0"
  ended : Accepted (Use End) (Status Normal)
  positioned : {status : DriveStatus} → one_of request_statuses (octet_of status) ≡ true → Accepted (Use Position) (Status status)
  targeted : {status : DriveStatus} → one_of request_statuses (octet_of status) ≡ true → Accepted (Use Target) (Status status)
  -- "Read status answers 0 with the octets".
  status_read : {octet0 octet1 octet2 : ℕ} → Accepted (Use ReadStatus) (Response octet0 octet1 octet2)

-- The numbers of the table that an event can be refused with.
abbrev pub refusal_numbers : List ℕ
refusal_numbers = 1 ∷ 2 ∷ 3 ∷ 4 ∷ 5 ∷ 6 ∷ 7 ∷ 8 ∷ 10 ∷ 11 ∷ []

pub data Listed (k : Kind) : Answer → Type 0 where
  refused : {refusal : Refusal} → one_of refusal_numbers (number refusal) ≡ true → Listed k (Refused refusal)
  accepted : {answer : Answer} → Accepted k answer → Listed k answer

pub record EveryAnswer : Type 0 where
  pub listed : (d : Drive) (e : Event) (sectors staging : List ℕ) → Listed (kind_of e.kind) (handled d e sectors staging).outcome.answer
