-- The answer in the paper's words: refusal, status, word count, place, word, response, each there or not.
use Rattle.std.specs.Prelude.{ℕ, ◌≡◌, List, [], ◌∷◌}
use Rattle.std.proofs.Math.Option.{Option, some, none}
use Rattle.refusals.specs.Refusal.{number}
use Rattle.status.specs.DriveStatus.{octet_of}
use Rattle.status.specs.declared.drive_status.DriveStatus.TheVariants.{Normal}
use Rattle.parts.specs.declared.setup.Place.{Place}
use Rattle.drive.specs.declared.answer.Answer.{Answer}
use Rattle.drive.specs.declared.answer.Answer.TheVariants.{Refused, Done, Status, Opened, Word, LastWord, Response}

-- "0 normal"
abbrev pub normal : ℕ
normal = octet_of Normal

pub record Paper : Type 0 where
  pub refusal : Option ℕ
  pub status : Option ℕ
  pub word_count : Option ℕ
  pub place : Option Place
  pub word : Option ℕ
  pub response : Option (List ℕ)

-- "A refusal reports its number and nothing else". "Kinds 1, 2 and 10, an opening and a word before the last carry no status."
-- "The answer that opens a transfer tells the number of words to come and the place." "Take answers the next word."
-- "The response is 8 octets .. All else 0." "Read status answers 0 with the octets".
unfoldable pub paper : Answer → Paper
paper (Refused refusal) = record { refusal = some (number refusal); status = none; word_count = none; place = none; word = none; response = none }
paper Done = record { refusal = none; status = none; word_count = none; place = none; word = none; response = none }
paper (Status status) = record { refusal = none; status = some (octet_of status); word_count = none; place = none; word = none; response = none }
paper (Opened n p) = record { refusal = none; status = none; word_count = some n; place = some p; word = none; response = none }
paper (Word w) = record { refusal = none; status = none; word_count = none; place = none; word = some w; response = none }
paper (LastWord w) = record { refusal = none; status = some normal; word_count = none; place = none; word = some w; response = none }
paper (Response octet0 octet1 octet2) =
    record {
      refusal = none;
      status = some normal;
      word_count = none;
      place = none;
      word = none;
      response = some (octet0 ∷ octet1 ∷ octet2 ∷ 0 ∷ 0 ∷ 0 ∷ 0 ∷ 0 ∷ []);
    }

-- "a definition gives this paper's number and values for each of its cases. The promises use that definition." An answer says these parts.
pub record Says (answer : Answer) (given : Paper) : Type 0 where
  pub refusal : (paper answer).refusal ≡ given.refusal
  pub status : (paper answer).status ≡ given.status
  pub word_count : (paper answer).word_count ≡ given.word_count
  pub place : (paper answer).place ≡ given.place
  pub word : (paper answer).word ≡ given.word
  pub response : (paper answer).response ≡ given.response

-- The number of a refused answer, 0 for the others.
abbrev pub refusal_in : Answer → ℕ
refusal_in (Refused refusal) = number refusal
refusal_in Done = 0
refusal_in (Status s) = 0
refusal_in (Opened n p) = 0
refusal_in (Word w) = 0
refusal_in (LastWord w) = 0
refusal_in (Response octet0 octet1 octet2) = 0
