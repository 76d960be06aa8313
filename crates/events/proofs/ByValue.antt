-- A drive by value is answered as a call on its words is: the call's refusal and its 13 words tell the answer.
-- Assumes nothing.
use Rattle.std.proofs.Common.{◌≡◌, ℕ, zero, suc, ◌≤◌, Bool, true, false, List, ◌++◌, length, get_or, drop, sym, refl, ap, ◌∙◌, subst, arith, length-append, le-ltb}
use Rattle.laws.specs.Pick.{pick}
use Rattle.laws.proofs.Lists.{each_one_of}
use Rattle.status.specs.DriveStatus.{octet_of, is_drive_status}
use Rattle.parts.specs.Setup.{within_limits}
use Rattle.parts.specs.declared.setup.Setup.{Setup}
use Rattle.parts.specs.declared.event.Event.{Event}
use Rattle.drive.specs.State.{told}
use Rattle.drive.specs.Answer.{paper}
use Rattle.drive.specs.AnswerWords.{answer_words, accepted_in, answer_in}
use Rattle.drive.specs.Refusal.{row11}
use Rattle.drive.specs.Event.{Handled}
use Rattle.drive.specs.Run.{answer_to, after}
use Rattle.drive.specs.Bounded.{AreOctets, statuses, Bounded}
use Rattle.drive.specs.declared.drive.Drive.{Drive}
use Rattle.drive.specs.declared.answer.Answer.{Answer}
use Rattle.drive.specs.declared.answer.Answer.TheVariants.{Refused, Done, Status, Opened, Word, LastWord, Response}
use Rattle.drive.proofs.Step.{says_as}
use Rattle.drive.proofs.Posted.{OnBoth}
use Rattle.drive.proofs.Sound.{sound}
use Rattle.drive.proofs.Turns.{thirteen}
use Rattle.drive.proofs.Bounded.{answers_bounded}
use Rattle.events.specs.State.{drive_in}
use Rattle.events.specs.Event.{machine_in, event_refusal, EventOnWords}
use Rattle.events.specs.Turn.{Told}
use Rattle.events.proofs.Goes.{goes}
use Rattle.events.proofs.Promises.{refused_answer, as_the_drive, as_after}

-- ---- the words of an answer

-- its status is absent or one that there is
status_fits : (s : Setup) (answer : Answer) (rest : List ℕ) → Bounded s answer → (get_or (answer_words answer ++ rest) 1 0 ≡ 0xFFFF → ⊥)
    → is_drive_status (get_or (answer_words answer ++ rest) 1 0) ≡ true
unfolding answer_words paper is_drive_status
status_fits s (Refused refusal) rest b h = absurd (h refl)
status_fits s Done rest b h = absurd (h refl)
status_fits s (Status status) rest b h = each_one_of (λ n. is_drive_status n ≡ true) statuses (octet_of status) b (refl, (refl, (refl, (refl, tt))))
status_fits s (Opened words place) rest b h = absurd (h refl)
status_fits s (Word word) rest b h = absurd (h refl)
status_fits s (LastWord word) rest b h = refl
status_fits s (Response first second third) rest b h = refl

-- what follows them is not read
front_read : (answer : Answer) (rest : List ℕ) → accepted_in (answer_words answer ++ rest) ≡ accepted_in (answer_words answer)
unfolding answer_words paper
front_read (Refused refusal) rest = refl
front_read Done rest = refl
front_read (Status status) rest = refl
front_read (Opened words place) rest = refl
front_read (Word word) rest = refl
front_read (LastWord word) rest = refl
front_read (Response first second third) rest = refl

-- ---- one call

limits_kept : (state : List ℕ) (e : Event) (sectors staging answer : List ℕ) → 21 ≤ length state → 0 ≡ event_refusal state e sectors staging answer
    → within_limits (drive_in state).setup ≡ true
unfolding pick
limits_kept state e sectors staging answer long z = (sound (drive_in state) (by_row11 (row11 (drive_in state)) refl)).limits
  where
    by_row11 : (unsound : Bool) → row11 (drive_in state) ≡ unsound → row11 (drive_in state) ≡ false
    by_row11 false u = u
    by_row11 true u = absurd (let n : 0 ≡ 11 = rw (le-ltb (length state) 21 long, u) at z in omega arith)

-- an answer can be read from the words that a call leaves
pub told_fit : {state : List ℕ} {e : Event} {sectors staging answer : List ℕ} (r : ℕ) {state' sectors' staging' answer' : List ℕ} → 13 ≤ length answer → is_drive_status (get_or answer 1 0) ≡ true
    → OnBoth AreOctets (drive_in state) → EventOnWords state e sectors staging answer r state' sectors' staging' answer' → Told answer'
told_fit {state} {e} {sectors} {staging} {answer} zero room start octets call =
    let m = machine_in state sectors staging in
    let a = answer_to m e in
    rw call.answer
    (record {
      long = rw (length-append (answer_words a) (drop (length (answer_words a)) answer), thirteen a) (omega arith);
      status = status_fits m.drive.setup a _ (answers_bounded.bounded m e octets);
    })
told_fit (suc n) room start octets call = rw call.answer (record { long = room; status = λ h. start })

-- and it is the answer to the event
told_again : {state : List ℕ} {e : Event} {sectors staging answer : List ℕ} (r : ℕ) {state' sectors' staging' answer' : List ℕ} → 21 ≤ length state → 13 ≤ length answer
    → OnBoth AreOctets (drive_in state) → EventOnWords state e sectors staging answer r state' sectors' staging' answer'
    → answer_in r answer' ≡ answer_to (machine_in state sectors staging) e
unfolding answer_in
told_again {state} {e} {sectors} {staging} {answer} zero long room octets call =
    let m = machine_in state sectors staging in
    let a = answer_to m e in
    let none = call.refusal ∙ as_the_drive state e sectors staging answer long room in
    ap accepted_in call.answer ∙ front_read a _ ∙ ap (λ (n : ℕ). answer_in n (answer_words a)) none
    ∙ answers_bounded.told_back m.drive.setup a (limits_kept state e sectors staging answer long call.refusal) (answers_bounded.bounded m e octets)
told_again {state} {e} {sectors} {staging} {answer} (suc n) long room octets call =
    sym (refused_answer (answer_to (machine_in state sectors staging) e) n (sym (call.refusal ∙ as_the_drive state e sectors staging answer long room)))

-- the words were made from a drive
pub octets_made : (d : Drive) (words : List ℕ) → drive_in words ≡ d → OnBoth AreOctets d → OnBoth AreOctets (drive_in words)
octets_made d words same o = subst (OnBoth AreOctets) (sym same) o

-- what the call tells is what the rule says of it
pub handled_by : (d : Drive) {e : Event} {sectors staging words answer : List ℕ} {r : ℕ} {words' sectors' staging' answer' : List ℕ} {answered : Answer} {d' : Drive}
    → 21 ≤ length words → 13 ≤ length answer → drive_in words ≡ d → OnBoth AreOctets (drive_in words)
    → EventOnWords words e sectors staging answer r words' sectors' staging' answer' → answered ≡ answer_in r answer' → d' ≡ drive_in words'
    → Handled d e sectors staging (told answered d') sectors' staging'
unfolding answer_to after
handled_by d {e} {sectors} {staging} {words} {r = r} long room same octets call read back =
    let left = as_after long room call in
    let answer = read ∙ told_again r long room octets call in
    rw (← same)
    (record {
      answer = answer;
      says = says_as answer;
      drive = back ∙ ap drive_in left.0 ∙ (goes words sectors staging e long).drive;
      sectors = left.1;
      staging = left.2;
    })
