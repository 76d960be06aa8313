-- Every answer is within bounds, and is read back from the words that tell it.
-- Assumes nothing.
use Prim.Native.Nat.{ℕ, ◌+◌, ◌*◌, ◌/◌, ◌%◌, ◌<◌, ◌≤◌}
use mathlib.Core.Path.{◌≡◌, refl, sym, ap, subst, ◌∙◌}
use mathlib.Core.Bool.{Bool, true, false}
use mathlib.Core.Logic.{◌⊎◌, inl, inr}
use mathlib.Core.List.{List, [], ◌∷◌, ◌++◌, append_assoc}
use mathlib.Core.Option.{some}
use native.Mathlib.Omega.{arith}
use borrow.Author.Tests.{ne_eqb}
use lib.Dec.{eqb}
use lib.ListN.{length, get_or, get_or-append}
use lib.Seq.{take_at, drop_at}
use Rattle.laws.specs.Pick.{pick}
use Rattle.laws.specs.Lists.{one_of}
use Rattle.laws.proofs.Differ.{absent}
use Rattle.laws.proofs.Lists.{each_one_of}
use Rattle.refusals.proofs.OnPaper.{of_its_number, left_as_it_was}
use Rattle.status.specs.DriveStatus.{octet_of}
use Rattle.status.proofs.RoundTrip.{status_of_octet}
use Rattle.parts.specs.Setup.{within_limits, sector_words}
use Rattle.parts.specs.Control.{is_data, words_to_come}
use Rattle.parts.specs.Pending.{bit6, noticed, faulted}
use Rattle.parts.specs.Kind.{kind_of}
use Rattle.parts.specs.declared.kind.Kind.{Kind}
use Rattle.parts.specs.declared.kind.Kind.TheVariants.{Select, Deselect, Use, Reset, Unknown}
use Rattle.parts.specs.declared.kind.Work.{Work}
use Rattle.parts.specs.declared.setup.Setup.{Setup}
use Rattle.parts.specs.declared.event.Event.{Event}
use Rattle.parts.proofs.Bits.{bit_fits}
use Rattle.drive.specs.State.{Result, pending_on, posted_on}
use Rattle.drive.specs.Request.{octet2_cleared}
use Rattle.drive.specs.Answer.{paper, refusal_in}
use Rattle.drive.specs.AnswerWords.{answer_words, words_of_answers, answer_in, answers_in}
use Rattle.drive.specs.Refusal.{refusal_of}
use Rattle.drive.specs.Able.{Passable}
use Rattle.drive.specs.Run.{Machine, answer_to, after, answers, final}
use Rattle.drive.specs.Bounded.{AreOctets, statuses, response_to, Bounded, PendingOctets, AllBounded, AnswersBounded}
use Rattle.drive.specs.declared.drive.Drive.{Drive}
use Rattle.drive.specs.declared.answer.Answer.{Answer}
use Rattle.drive.specs.declared.answer.Answer.TheVariants.{Refused, Done, Status, Opened, Word, LastWord, Response}
use Rattle.drive.specs.declared.answer.Outcome.{Outcome}
use Rattle.parts.proofs.Bounds.{Limits, limits, words_within, code_words_few, sector_words_few}
use Rattle.drive.proofs.Sound.{sound}
use Rattle.drive.proofs.Laws.{by_cases, done_by, AllPassed}
use Rattle.drive.proofs.EveryAnswer.{of_the_table, named_right}
use Rattle.drive.proofs.SoundPlace.{pending_stray}
use Rattle.drive.proofs.Posted.{on_either, kept_on_both}
use Rattle.drive.proofs.Standing.{sought_setup}
use Rattle.drive.proofs.FromPowerUp.{sought_inside}
use Rattle.drive.proofs.StaysSound.{same_size_lem, cleared_passable}
use Rattle.drive.proofs.Turns.{thirteen}
use Rattle.drive.proofs.Outcomes

-- ---- bounds

words_or_few : (s : Setup) (c : ℕ) → (words_to_come s c ≤ sector_words s) ⊎ (words_to_come s c ≤ 5)
words_or_few s c = by_bit (is_data c) refl
  where
    by_bit : (high : Bool) → is_data c ≡ high → (words_to_come s c ≤ sector_words s) ⊎ (words_to_come s c ≤ 5)
    by_bit true h = inl (words_within s c h)
    by_bit false h = inr (code_words_few s c h)

opened_within : {d at : Drive} {c : ℕ} {sectors staging : List ℕ} → Passable d sectors staging → Outcomes.Sought d c at
    → Bounded d.setup (Opened (words_to_come at.setup c) at.place)
opened_within {d} {c = c} p q =
    record {
      count = subst (λ (s : Setup). (words_to_come s c ≤ sector_words d.setup) ⊎ (words_to_come s c ≤ 5)) (sym (sought_setup q)) (words_or_few d.setup c);
      inside = sought_inside p q;
    }

asked_bounded : {d : Drive} {e : Event} {sectors staging : List ℕ} {work : Work} {o : Outcome} → Passable d sectors staging → Outcomes.Asked d e work o
    → Bounded d.setup o.answer
asked_bounded p (Outcomes.bad q b) = refl
asked_bounded p (Outcomes.stepped k) = refl
asked_bounded p (Outcomes.nothing_to_come q w) = refl
asked_bounded p (Outcomes.opens q o z) = opened_within p q
asked_bounded p (Outcomes.placed h) = refl
asked_bounded p (Outcomes.aimed h) = refl

quiet_bounded : {d : Drive} {e : Event} {sectors staging : List ℕ} {work : Work} {o : Outcome} → Passable d sectors staging
    → (AreOctets d.pending0 × AreOctets d.pending1) → Outcomes.Quiet d e sectors work o → Bounded d.setup o.answer
unfolding octet2_cleared posted_on
quiet_bounded p f (Outcomes.unsolicited q z) = refl
quiet_bounded {e = e} p f (Outcomes.asked (Outcomes.afresh c z) x) = asked_bounded (cleared_passable e.port p) x
quiet_bounded p f (Outcomes.asked (Outcomes.as_it_was z) x) = asked_bounded p x
quiet_bounded p f (Outcomes.taken_last high) = tt
quiet_bounded p f (Outcomes.taken high z) = tt
quiet_bounded p f (Outcomes.ends high) = refl
quiet_bounded p f (Outcomes.exchanged low (Outcomes.kept z)) = tt
quiet_bounded p f (Outcomes.exchanged low (Outcomes.obeys h)) = refl
quiet_bounded p f (Outcomes.exchanged low (Outcomes.disobeys b)) = refl
quiet_bounded p f (Outcomes.exchanged low (Outcomes.tells z)) = tt
quiet_bounded p f (Outcomes.exchanged low (Outcomes.tells_last z)) = tt
quiet_bounded p f (Outcomes.exchanged low Outcomes.cut) = refl
quiet_bounded {d} {e} p f Outcomes.status_told =
    record { octets = on_either AreOctets d e.port f; known = pending_stray e.port (sound d p.sound); fits = refl }

work_bounded : {d : Drive} {e : Event} {sectors staging : List ℕ} {work : Work} {r : Result} → Passable d sectors staging
    → (AreOctets d.pending0 × AreOctets d.pending1) → Outcomes.WorkDone d e sectors staging work r → Bounded d.setup r.outcome.answer
work_bounded p f (Outcomes.quiet q) = quiet_bounded p f q
work_bounded p f (Outcomes.miscompared high) = refl
work_bounded p f (Outcomes.completed high z) = refl
work_bounded p f (Outcomes.more high z) = tt

kind_bounded : (k : Kind) (m : Machine) (e : Event) → PendingOctets m → AllPassed k m e → Bounded m.drive.setup (done_by k m e).outcome.answer
kind_bounded Select m e f p = tt
kind_bounded Deselect m e f p = tt
kind_bounded Reset m e f p = tt
kind_bounded Unknown m e f p = tt
kind_bounded (Use work) m e f p = work_bounded (record { sound = p.sound; room = p.room }) f (Outcomes.work_done m.drive e m.sectors m.staging work)

bounded : (m : Machine) (e : Event) → PendingOctets m → Bounded m.drive.setup (answer_to m e)
unfolding refusal_of
bounded m e f =
    by_cases (λ answer next. Bounded m.drive.setup answer) m e
    (λ n z. rw (named_right (kind_of e.kind) m.drive e m.sectors m.staging n z) (of_the_table (kind_of e.kind) m.drive e m.sectors m.staging n z))
    (λ k z p. kind_bounded k m e f p)

octets_stay : (m : Machine) (e : Event) → PendingOctets m → PendingOctets (after m e)
unfolding noticed faulted
octets_stay =
    kept_on_both AreOctets
    (record {
      nothing = (omega arith, omega arith);
      reset = (omega arith, omega arith);
      notice = λ p o. (bit_fits p.octet1 bit6 o.0, o.1);
      fault = λ p b o. (o.0, bit_fits p.octet2 b o.1);
      clear = λ p o. (o.0, omega arith);
    })

pub octets_along : (m : Machine) (events : List Event) → PendingOctets m → PendingOctets (final m events)
unfolding final
octets_along m [] f = f
octets_along m (e ∷ events) f = octets_along (after m e) events (octets_stay m e f)

bounded_along : (m : Machine) (events : List Event) → PendingOctets m → AllBounded m.drive.setup (answers m events)
unfolding answers
bounded_along m [] f = tt
bounded_along m (e ∷ events) f =
    (bounded m e f, subst (λ (s : Setup). AllBounded s (answers (after m e) events)) (same_size_lem m e).setup (bounded_along (after m e) events (octets_stay m e f)))

-- ---- the response

work_response : {d : Drive} {e : Event} {sectors : List ℕ} {work : Work} {o : Outcome} (octets : List ℕ) → Outcomes.Told d e sectors work o
    → (paper o.answer).response ≡ some octets → octets ≡ response_to (pending_on d e.port)
unfolding paper
work_response octets (Outcomes.an_opening a q w) h = absent refl h
work_response octets (Outcomes.a_word high w p r) h = absent r h
work_response octets (Outcomes.a_response_word low w p r) h = absent r h
work_response {d} {e} octets Outcomes.a_response h = cc
work_response octets (Outcomes.nothing w p r) h = absent r h

kind_response : (k : Kind) (m : Machine) (e : Event) (octets : List ℕ) → (paper (done_by k m e).outcome.answer).response ≡ some octets
    → octets ≡ response_to (pending_on m.drive e.port)
unfolding paper
kind_response Select m e octets h = absent refl h
kind_response Deselect m e octets h = absent refl h
kind_response Reset m e octets h = absent refl h
kind_response Unknown m e octets h = absent refl h
kind_response (Use work) m e octets h = work_response octets (Outcomes.work_told (Outcomes.work_done m.drive e m.sectors m.staging work)) h

response_told : (m : Machine) (e : Event) (octets : List ℕ) → (paper (answer_to m e)).response ≡ some octets → octets ≡ response_to (pending_on m.drive e.port)
unfolding paper
response_told m e octets =
    by_cases (λ answer next. (paper answer).response ≡ some octets → octets ≡ response_to (pending_on m.drive e.port)) m e
    (λ n z h. absent refl h) (λ k z p h. kind_response k m e octets h)

-- ---- an answer, read back

-- what has a word of 16 bits is not FFFF
there : (n : ℕ) → n < 0xFFFF → eqb n 0xFFFF ≡ false
there n h = ne_eqb n 0xFFFF (λ e. omega arith)

few_words : (s : Setup) (words : ℕ) → Limits s → (words ≤ sector_words s) ⊎ (words ≤ 5) → words < 0xFFFF
few_words s words l (inl h) = omega (arith, sector_words_few s l)
few_words s words l (inr h) = omega arith

status_there : (octet : ℕ) → one_of statuses octet ≡ true → eqb octet 0xFFFF ≡ false
status_there octet b = each_one_of (λ n. eqb n 0xFFFF ≡ false) statuses octet b (refl, (refl, (refl, (refl, tt))))

told_back : (s : Setup) (answer : Answer) → within_limits s ≡ true → Bounded s answer → answer_in (refusal_in answer) (answer_words answer) ≡ answer
unfolding answer_in answer_words paper pick
told_back s (Refused refusal) l b = left_as_it_was refusal _ refl ∙ ap Refused (of_its_number refusal)
told_back s Done l b = refl
told_back s (Status status) l b = rw (status_there (octet_of status) b, (status_of_octet status).1)
told_back s (Opened words place) l b = rw (there words (few_words s words (limits s l) b.count))
told_back s (Word word) l b = refl
told_back s (LastWord word) l b = refl
told_back s (Response first second third) l b =
    let high : (first * 256 + second) / 256 ≡ first = omega (arith, b.octets.0) in
    let low : (first * 256 + second) % 256 ≡ second = omega (arith, b.octets.0) in
    let next : (third * 256 + 0) / 256 ≡ third = omega arith in
    rw (high, low, next)

-- word 0 of an answer is its refusal
refusal_first : (answer : Answer) → get_or (answer_words answer) 0 0 ≡ refusal_in answer
unfolding answer_words paper
refusal_first (Refused refusal) = refl
refusal_first Done = refl
refusal_first (Status status) = refl
refusal_first (Opened words place) = refl
refusal_first (Word word) = refl
refusal_first (LastWord word) = refl
refusal_first (Response first second third) = refl

all_told_back : (s : Setup) (told : List Answer) (rest : List ℕ) → within_limits s ≡ true → AllBounded s told → answers_in (length told) (words_of_answers told ++ rest) ≡ told
unfolding answers_in words_of_answers
all_told_back s [] rest l b = refl
all_told_back s (answer ∷ told) rest l b =
    let ws = answer_words answer in
    let size = thirteen answer in
    let here : 0 < length ws = omega arith in
    rw (append_assoc ws (words_of_answers told) rest, get_or-append ws (words_of_answers told ++ rest) 0 0 here, take_at ws (words_of_answers told ++ rest) 13 size, drop_at ws (words_of_answers told ++ rest) 13 size, refusal_first answer, told_back s answer l b.0, all_told_back s told rest l b.1)

pub answers_bounded : AnswersBounded
answers_bounded = record { bounded = bounded; run = bounded_along; response = response_told; octets = octets_stay; told_back = told_back; all_told_back = all_told_back }
