-- The answer as 13 words of 16 bits, for callers that lend numbers and slices alone. Word 0 is the refusal, 1 the status, 2 the words to come,
-- 3 to 5 the place, 6 and 7 whether there is a word and the word, 8 whether there is a response, 9 to 12 its octets.
use Rattle.std.specs.Prelude.{ℕ, zero, suc, ◌+◌, ◌*◌, ◌/◌, ◌%◌, List, [], ◌∷◌, ◌++◌, eqb, get_or, take, drop}
use Rattle.std.proofs.Math.Option.{Option, some, none}
use Rattle.laws.specs.Pick.{pick}
use Rattle.laws.specs.Rows.{unless_refused}
use Rattle.refusals.specs.Refusal.{named}
use Rattle.status.specs.DriveStatus.{status_of}
use Rattle.parts.specs.declared.setup.Place.{Place}
use Rattle.drive.specs.State.{at_place}
use Rattle.drive.specs.Answer.{Paper, paper}
use Rattle.drive.specs.declared.answer.Answer.{Answer}
use Rattle.drive.specs.declared.answer.Answer.TheVariants.{Refused, Done, Status, Opened, Word, LastWord, Response}

-- Word 0: 0 where there is none.
abbrev pub refusal_word : Option ℕ → ℕ
refusal_word none = 0
refusal_word (some n) = n

-- Words 1 and 2, and each of 3 to 5: FFFF where there is none.
abbrev pub or_ffff : Option ℕ → ℕ
or_ffff none = 0xFFFF
or_ffff (some n) = n

abbrev pub place_words : Option Place → List ℕ
place_words none = 0xFFFF ∷ 0xFFFF ∷ 0xFFFF ∷ []
place_words (some p) = p.cylinder ∷ p.head ∷ p.sector ∷ []

-- Words 6 and 7.
abbrev pub word_words : Option ℕ → List ℕ
word_words none = 0 ∷ 0 ∷ []
word_words (some w) = 1 ∷ w ∷ []

-- Octets two by two, high first.
abbrev pub pairs : List ℕ → List ℕ
pairs [] = []
pairs (high ∷ []) = high * 256 ∷ []
pairs (high ∷ low ∷ octets) = (high * 256 + low) ∷ pairs octets

-- Words 8 to 12.
abbrev pub response_words : Option (List ℕ) → List ℕ
response_words none = 0 ∷ 0 ∷ 0 ∷ 0 ∷ 0 ∷ []
response_words (some octets) = 1 ∷ pairs octets

abbrev pub paper_words : Paper → List ℕ
paper_words p =
    refusal_word p.refusal ∷ or_ffff p.status ∷ or_ffff p.word_count ∷ place_words p.place ++ word_words p.word ++ response_words p.response

unfoldable pub answer_words : Answer → List ℕ
answer_words answer = paper_words (paper answer)

-- The words of answers one after another.
unfoldable pub words_of_answers : List Answer → List ℕ
words_of_answers [] = []
words_of_answers (answer ∷ answers) = answer_words answer ++ words_of_answers answers

-- ---- the answer that words tell

-- The words of an accepted event's answer: a response, a word, a status, an opening, or none of them.
abbrev pub accepted_in : List ℕ → Answer
accepted_in words =
    pick (eqb (get_or words 8 0) 1) (Response (get_or words 9 0 / 256) (get_or words 9 0 % 256) (get_or words 10 0 / 256))
    (pick (eqb (get_or words 6 0) 1) (pick (eqb (get_or words 1 0) 0xFFFF) (Word (get_or words 7 0)) (LastWord (get_or words 7 0)))
    (pick (eqb (get_or words 1 0) 0xFFFF)
    (pick (eqb (get_or words 2 0) 0xFFFF) Done (Opened (get_or words 2 0) (at_place (get_or words 3 0) (get_or words 4 0) (get_or words 5 0))))
    (Status (status_of (get_or words 1 0)))))

-- The answer to one event: by the refusal that its call returned, and else by its words.
unfoldable pub answer_in : ℕ → List ℕ → Answer
answer_in n words = unless_refused n (Refused (named n)) (accepted_in words)

-- The answers to so many events of a run: the refusal is the first of each 13 words.
unfoldable pub answers_in : ℕ → List ℕ → List Answer
answers_in zero words = []
answers_in (suc count) words = answer_in (get_or words 0 0) (take 13 words) ∷ answers_in count (drop 13 words)
