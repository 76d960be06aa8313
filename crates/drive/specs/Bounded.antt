-- What a drive answers is within bounds, so that 13 words of 16 bits tell it and it can be read back from them.
use Rattle.std.specs.Prelude.{ℕ, ◌<◌, ◌≤◌, ◌≡◌, ◌⊎◌, true, false, List, [], ◌∷◌, ◌++◌, length}
use Rattle.std.proofs.Math.Option.{some}
use Rattle.laws.specs.Lists.{one_of}
use Rattle.refusals.specs.Refusal.{number}
use Rattle.status.specs.DriveStatus.{octet_of}
use Rattle.parts.specs.Setup.{within_limits, sector_words, is_place}
use Rattle.parts.specs.Pending.{pending_of, octet0}
use Rattle.parts.specs.Tests.{has_stray_bit}
use Rattle.parts.specs.declared.setup.Setup.{Setup}
use Rattle.parts.specs.declared.setup.Place.{Place}
use Rattle.parts.specs.declared.pending.Pending.{Pending}
use Rattle.parts.specs.declared.event.Event.{Event}
use Rattle.drive.specs.State.{pending_on}
use Rattle.drive.specs.Answer.{paper, refusal_in}
use Rattle.drive.specs.AnswerWords.{answer_words, words_of_answers, answer_in, answers_in}
use Rattle.drive.specs.EveryAnswer.{refusal_numbers}
use Rattle.drive.specs.Run.{Machine, answer_to, after, answers}
use Rattle.drive.specs.declared.answer.Answer.{Answer}
use Rattle.drive.specs.declared.answer.Answer.TheVariants.{Refused, Done, Status, Opened, Word, LastWord, Response}

-- "0 normal, 1 busy, 7 header miscompare, 8 operation exception, C unsolicited exception. The base never sends busy".
abbrev pub statuses : List ℕ
statuses = 0 ∷ 7 ∷ 8 ∷ 0xC ∷ []

-- What is pending is two octets, as in every drive that is made of octets.
abbrev pub AreOctets : Pending → Type 0
AreOctets p = (p.octet1 < 256) × (p.octet2 < 256)

-- Two octets, no "pending bit the base never sets", and the octet 0 that they make.
pub record ResponseOf (first second third : ℕ) : Type 0 where
  pub octets : AreOctets (pending_of second third)
  pub known : has_stray_bit (pending_of second third) ≡ false
  pub fits : first ≡ octet0 (pending_of second third)

-- No more words than a sector has, or than a command or response.
pub record OpenedWithin (s : Setup) (words : ℕ) (place : Place) : Type 0 where
  pub count : (words ≤ sector_words s) ⊎ (words ≤ 5)
  pub inside : is_place s place ≡ true

abbrev pub Bounded : Setup → Answer → Type 0
Bounded s (Refused refusal) = one_of refusal_numbers (number refusal) ≡ true
Bounded s Done = Unit
Bounded s (Status status) = one_of statuses (octet_of status) ≡ true
Bounded s (Opened words place) = OpenedWithin s words place
Bounded s (Word word) = Unit
Bounded s (LastWord word) = Unit
Bounded s (Response first second third) = ResponseOf first second third

-- "The response is 8 octets", by what is pending: "All else 0."
abbrev pub response_to : Pending → List ℕ
response_to p = octet0 p ∷ p.octet1 ∷ p.octet2 ∷ 0 ∷ 0 ∷ 0 ∷ 0 ∷ 0 ∷ []

-- What is pending on both ports is two octets.
abbrev pub PendingOctets : Machine → Type 0
PendingOctets m = AreOctets m.drive.pending0 × AreOctets m.drive.pending1

abbrev pub AllBounded : Setup → List Answer → Type 0
AllBounded s [] = Unit
AllBounded s (answer ∷ told) = Bounded s answer × AllBounded s told

pub record AnswersBounded : Type 0 where
  pub bounded : (m : Machine) (e : Event) → PendingOctets m → Bounded m.drive.setup (answer_to m e)
  pub run : (m : Machine) (events : List Event) → PendingOctets m → AllBounded m.drive.setup (answers m events)
  -- "Read status answers 0 with the octets": those that were pending on the port.
  pub response : (m : Machine) (e : Event) (octets : List ℕ) → (paper (answer_to m e)).response ≡ some octets → octets ≡ response_to (pending_on m.drive e.port)
  -- What is pending stays two octets.
  pub octets : (m : Machine) (e : Event) → PendingOctets m → PendingOctets (after m e)
  -- The answer to an event is read back from its refusal and its 13 words, the answers of a run from their words.
  pub told_back : (s : Setup) (answer : Answer) → within_limits s ≡ true → Bounded s answer → answer_in (refusal_in answer) (answer_words answer) ≡ answer
  pub all_told_back : (s : Setup) (told : List Answer) (rest : List ℕ) → within_limits s ≡ true → AllBounded s told
      → answers_in (length told) (words_of_answers told ++ rest) ≡ told
