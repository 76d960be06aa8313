-- The parts of an answer, stored over the words of one without parts, give its words.
-- Assumes nothing.
use Rattle.std.proofs.Common.{◌≡◌, ℕ, ◌+◌, ◌*◌, Bool, true, false, List, set, sym, refl, ◌∙◌, add-zero}
use Rattle.laws.specs.Pick.{pick}
use Rattle.laws.specs.Lists.{written_over}
use Rattle.laws.specs.Rows.{unless_refused}
use Rattle.refusals.specs.Refusal.{number}
use Rattle.refusals.specs.declared.refusal.Refusal.{Refusal}
use Rattle.refusals.proofs.OnPaper.{left_as_it_was, told_by_name}
use Rattle.status.specs.DriveStatus.{octet_of}
use Rattle.status.specs.declared.drive_status.DriveStatus.{DriveStatus}
use Rattle.parts.specs.declared.setup.Place.{Place}
use Rattle.events.specs.Turn.{Telling}
use Rattle.drive.specs.Accepted.{is_refused}
use Rattle.drive.specs.Answer.{paper, refusal_in}
use Rattle.drive.specs.AnswerWords.{answer_words, answer_in}
use Rattle.drive.specs.declared.answer.Answer.{Answer}
use Rattle.drive.specs.declared.answer.Answer.TheVariants.{Refused, Done, Status, Opened, Word, LastWord, Response}

-- the slice holds the words of an answer without parts
abbrev IsDone : List ℕ → List ℕ → Type 0
IsDone out done = done ≡ written_over out (answer_words Done)

pub refused_over : (refusal : Refusal) (out done : List ℕ) → IsDone out done → set done 0 (number refusal) ≡ written_over out (answer_words (Refused refusal))
unfolding answer_words paper
refused_over refusal out done e = rw e

pub status_over : (status : DriveStatus) (out done : List ℕ) → IsDone out done → set done 1 (octet_of status) ≡ written_over out (answer_words (Status status))
unfolding answer_words paper
status_over status out done e = rw e

pub opened_over : (n : ℕ) (p : Place) (out done : List ℕ) → IsDone out done → set (set (set (set done 2 n) 3 p.cylinder) 4 p.head) 5 p.sector ≡ written_over out (answer_words (Opened n p))
unfolding answer_words paper
opened_over n p out done e = rw e

pub word_over : (w : ℕ) (out done : List ℕ) → IsDone out done → set (set done 6 1) 7 w ≡ written_over out (answer_words (Word w))
unfolding answer_words paper
word_over w out done e = rw e

pub last_word_over : (w : ℕ) (out done : List ℕ) → IsDone out done → set (set (set done 1 0) 6 1) 7 w ≡ written_over out (answer_words (LastWord w))
unfolding answer_words paper
last_word_over w out done e = rw e

pub response_over : (octet0 octet1 octet2 : ℕ) (out done : List ℕ) → IsDone out done → set (set (set (set done 1 0) 8 1) 9 (octet0 * 256 + octet1)) 10 (octet2 * 256) ≡ written_over out (answer_words (Response octet0 octet1 octet2))
unfolding answer_words paper
response_over octet0 octet1 octet2 out done e = rw (e, add-zero)

-- an answer that is no refusal is told in any case
pub accepted_told : (telling : Bool) (answer known : Answer) (out out' : List ℕ) → answer ≡ known → is_refused known ≡ false → refusal_in known ≡ 0
    → out' ≡ written_over out (answer_words known) → Telling telling answer out 0 out'
unfolding pick
accepted_told true answer known out out' e a z w = rw e (record { number = refl; out = w })
accepted_told false answer known out out' e a z w = rw e (record { number = sym z; out = rw a w })

pub refusal_told : (telling : Bool) (answer : Answer) (refusal : Refusal) (out out' : List ℕ) → answer ≡ Refused refusal → telling ≡ true → out' ≡ written_over out (answer_words (Refused refusal))
    → Telling telling answer out 0 out'
unfolding pick
refusal_told telling answer refusal out out' e t w = rw (e, t) (record { number = refl; out = w })

pub refusal_kept : (telling : Bool) (answer : Answer) (refusal : Refusal) (out : List ℕ) → answer ≡ Refused refusal → telling ≡ false → Telling telling answer out (number refusal) out
unfolding pick
refusal_kept telling answer refusal out e t = rw (e, t) (record { number = refl; out = refl })

-- by the number that is handed back, where a refusal has one
pub told_out : (telling : Bool) (answer : Answer) {out out' : List ℕ} {n : ℕ} → Telling telling answer out n out'
    → out' ≡ unless_refused n out (written_over out (answer_words answer))
unfolding pick
told_out true answer t = rw t.number t.out
told_out false (Refused refusal) t = rw t.number (t.out ∙ sym (left_as_it_was refusal _ refl))
told_out false Done t = rw t.number t.out
told_out false (Status s) t = rw t.number t.out
told_out false (Opened n p) t = rw t.number t.out
told_out false (Word w) t = rw t.number t.out
told_out false (LastWord w) t = rw t.number t.out
told_out false (Response octet0 octet1 octet2) t = rw t.number t.out

-- ---- read back

pub refused_in : (refusal : Refusal) (words : List ℕ) → Refused refusal ≡ answer_in (number refusal) words
unfolding answer_in
refused_in refusal words = told_by_name Refused refusal _ refl
