-- Every answer is listed, and each refusal is given exactly when its row says so.
-- Assumes nothing.
use Prim.Native.Nat.{ℕ, zero, suc}
use mathlib.Core.Path.{◌≡◌, refl}
use mathlib.Core.Bool.{true, true≢false}
use mathlib.Core.List.{List}
use Rattle.laws.specs.Lists.{one_of}
use mathlib.Core.Logic.{◌↔◌}
use Rattle.laws.specs.Rows.{first, Given, unless_refused}
use Rattle.laws.proofs.Rows.{first_among, EachNumber, first_is_exact, row_off, rows_rest}
use Rattle.laws.proofs.Lists.{each_one_of}
use Rattle.refusals.specs.Refusal.{number, named}
use Rattle.status.specs.DriveStatus.{octet_of}
use Rattle.status.specs.declared.drive_status.DriveStatus.{DriveStatus}
use Rattle.parts.specs.Kind.{kind_of}
use Rattle.parts.specs.declared.kind.Kind.{Kind}
use Rattle.parts.specs.declared.kind.Kind.TheVariants.{Select, Deselect, Use, Reset, Unknown}
use Rattle.parts.specs.declared.kind.Work.{Work}
use Rattle.parts.specs.declared.event.Event.{Event}
use Rattle.drive.specs.Answer.{refusal_in}
use Rattle.drive.specs.State.{Result, told, result}
use Rattle.drive.specs.Refusal.{rows, rows_of, row8, row1, row10, row11, refusal_of}
use Rattle.drive.specs.Event.{act, refused_with, handled}
use Rattle.drive.specs.Power.{at_rest, power_up_rows}
use Rattle.refusals.proofs.OnPaper.{exactly_on_paper, reported_by_name}
use Rattle.drive.specs.EveryAnswer as every
use Rattle.drive.specs.EveryAnswer.{request_statuses, Accepted, Listed, refusal_numbers, EveryAnswer}
use Rattle.drive.specs.Exactly.{Exactly}
use Rattle.drive.specs.Frame as frame
use Rattle.drive.specs.declared.drive.Drive.{Drive}
use Rattle.drive.specs.declared.answer.Outcome.{Outcome}
use Rattle.drive.specs.declared.answer.Answer.{Answer}
use Rattle.drive.specs.declared.answer.Answer.TheVariants.{Refused, Status}
use Rattle.drive.proofs.Outcomes

-- ---- what each kind answers

request_answers : {work : Work} {e : Event} {status : DriveStatus} → frame.ClearsFirst e (Use work) → one_of request_statuses (octet_of status) ≡ true → Accepted (Use work) (Status status)
request_answers (frame.control n) h = every.controlled h
request_answers frame.position h = every.positioned h
request_answers frame.target h = every.targeted h

exchange_answers : {d : Drive} {e : Event} {work : Work} {o : Outcome} → Outcomes.Exchanged d e work o → Accepted (Use work) o.answer
exchange_answers (Outcomes.kept z) = every.more
exchange_answers (Outcomes.obeys h) = every.finished
exchange_answers (Outcomes.disobeys b) = every.disobeyed
exchange_answers (Outcomes.tells z) = every.taken
exchange_answers (Outcomes.tells_last z) = every.last_taken
exchange_answers Outcomes.cut = every.ended

asked_answers : {d : Drive} {e : Event} {work : Work} {o : Outcome} → Outcomes.Asked d e work o → Accepted (Use work) o.answer
asked_answers (Outcomes.bad q b) = request_answers q refl
asked_answers (Outcomes.stepped k) = every.controlled refl
asked_answers (Outcomes.nothing_to_come q w) = every.controlled refl
asked_answers (Outcomes.opens q o z) = every.opened
asked_answers (Outcomes.placed h) = every.positioned refl
asked_answers (Outcomes.aimed h) = every.targeted refl

quiet_answers : {d : Drive} {e : Event} {sectors : List ℕ} {work : Work} {o : Outcome} → Outcomes.Quiet d e sectors work o → Accepted (Use work) o.answer
quiet_answers (Outcomes.unsolicited q z) = request_answers q refl
quiet_answers (Outcomes.asked h x) = asked_answers x
quiet_answers (Outcomes.taken_last high) = every.last_taken
quiet_answers (Outcomes.taken high z) = every.taken
quiet_answers (Outcomes.ends high) = every.ended
quiet_answers (Outcomes.exchanged low x) = exchange_answers x
quiet_answers Outcomes.status_told = every.status_read

done_answers : {d : Drive} {e : Event} {sectors staging : List ℕ} {work : Work} {r : Result} → Outcomes.WorkDone d e sectors staging work r
    → Accepted (Use work) r.outcome.answer
done_answers (Outcomes.quiet q) = quiet_answers q
done_answers (Outcomes.miscompared high) = every.miscompared
done_answers (Outcomes.completed high z) = every.finished
done_answers (Outcomes.more high z) = every.more

work_answers : (w : Work) (d : Drive) (e : Event) (sectors staging : List ℕ) → Accepted (Use w) (act (Use w) d e sectors staging).outcome.answer
work_answers w d e sectors staging = done_answers (Outcomes.work_done d e sectors staging w)

-- ---- refusals: the number of the first row that holds is one of the table

abbrev OfTheTable : ℕ → Type 0
OfTheTable n = one_of refusal_numbers n ≡ true

own_numbers : (k : Kind) (d : Drive) (e : Event) → EachNumber OfTheTable (rows_of k d e)
own_numbers Select d e = (refl, (refl, (refl, (refl, tt))))
own_numbers Deselect d e = (refl, (refl, tt))
own_numbers (Use w) d e = (refl, (refl, tt))
own_numbers Reset d e = tt
own_numbers Unknown d e = tt

numbers : (k : Kind) (d : Drive) (e : Event) (sectors staging : List ℕ) → EachNumber OfTheTable (rows k d e sectors staging)
numbers k d e sectors staging = (refl, (refl, (refl, (refl, own_numbers k d e))))

pub of_the_table : (k : Kind) (d : Drive) (e : Event) (sectors staging : List ℕ) (n : ℕ) → refusal_of k d e sectors staging ≡ suc n → OfTheTable (suc n)
unfolding refusal_of
of_the_table k d e sectors staging n z = first_among OfTheTable (rows k d e sectors staging) (numbers k d e sectors staging) n z

-- and has the name of a refusal
pub named_right : (k : Kind) (d : Drive) (e : Event) (sectors staging : List ℕ) (n : ℕ) → refusal_of k d e sectors staging ≡ suc n → number (named (suc n)) ≡ suc n
named_right k d e sectors staging n z =
    each_one_of (λ n. number (named n) ≡ n) refusal_numbers (suc n) (of_the_table k d e sectors staging n z)
    (refl, (refl, (refl, (refl, (refl, (refl, (refl, (refl, (refl, (refl, tt))))))))))

-- a kind that is not 1 to 10 never passes row 8
never_unknown : (d : Drive) (e : Event) (sectors staging : List ℕ) → first (rows Unknown d e sectors staging) ≡ 0 → ⊥
never_unknown d e sectors staging p =
    let off = row_off (row8 Unknown e) 7 0 (rows_rest (row1 e) 0 _ (rows_rest (row10 d.setup sectors staging) 9 _ (rows_rest (row11 d) 10 _ p))) in
    true≢false off

accepted_answer : (k : Kind) (d : Drive) (e : Event) (sectors staging : List ℕ) → first (rows k d e sectors staging) ≡ 0
    → Accepted k (act k d e sectors staging).outcome.answer
accepted_answer Select d e sectors staging p = every.selected
accepted_answer Deselect d e sectors staging p = every.deselected
accepted_answer Reset d e sectors staging p = every.reset
accepted_answer (Use w) d e sectors staging p = work_answers w d e sectors staging
accepted_answer Unknown d e sectors staging p = absurd (never_unknown d e sectors staging p)

by_refusal : (k : Kind) (d : Drive) (e : Event) (sectors staging : List ℕ) (n : ℕ) → refusal_of k d e sectors staging ≡ n
    → Listed k (unless_refused n (refused_with n d sectors staging) (act k d e sectors staging)).outcome.answer
unfolding refusal_of
by_refusal k d e sectors staging zero p = every.accepted (accepted_answer k d e sectors staging p)
by_refusal k d e sectors staging (suc n) p = every.refused (rw (named_right k d e sectors staging n p) (of_the_table k d e sectors staging n p))

pub every_answer : EveryAnswer
unfolding handled refusal_of
every_answer = record { listed = λ d e sectors staging. by_refusal (kind_of e.kind) d e sectors staging _ refl }

-- ---- exactly

unrefused : {k : Kind} {a : Answer} → Accepted k a → refusal_in a ≡ 0
unrefused every.selected = refl
unrefused every.deselected = refl
unrefused every.reset = refl
unrefused every.opened = refl
unrefused (every.controlled p) = refl
unrefused every.more = refl
unrefused every.finished = refl
unrefused every.miscompared = refl
unrefused every.disobeyed = refl
unrefused every.taken = refl
unrefused every.last_taken = refl
unrefused every.ended = refl
unrefused (every.positioned p) = refl
unrefused (every.targeted p) = refl
unrefused every.status_read = refl

act_unrefused : (k : Kind) (d : Drive) (e : Event) (sectors staging : List ℕ) → refusal_in (act k d e sectors staging).outcome.answer ≡ 0
act_unrefused Select d e sectors staging = refl
act_unrefused Deselect d e sectors staging = refl
act_unrefused Reset d e sectors staging = refl
act_unrefused (Use w) d e sectors staging = unrefused (work_answers w d e sectors staging)
act_unrefused Unknown d e sectors staging = refl

abbrev report_of : Result → ℕ
report_of r = refusal_in r.outcome.answer

event_exactly : (k : Kind) (d : Drive) (e : Event) (sectors staging : List ℕ) (n : ℕ) → let m = first (rows k d e sectors staging) in
    report_of (unless_refused m (refused_with m d sectors staging) (act k d e sectors staging)) ≡ suc n ↔ Given (suc n) (rows k d e sectors staging)
unfolding refusal_of
event_exactly k d e sectors staging n =
    rw (reported_by_name report_of (λ refusal. result (told (Refused refusal) d) sectors staging) (λ refusal. refl) (first (rows k d e sectors staging))
    (λ m z. rw z (named_right k d e sectors staging m z)) (act k d e sectors staging) (act_unrefused k d e sectors staging))
    (first_is_exact n (rows k d e sectors staging))

pub exactly_when : Exactly
unfolding handled refusal_of
exactly_when =
    record {
      event = λ d e sectors staging r sectors' staging' h n. rw h.answer (event_exactly (kind_of e.kind) d e sectors staging n);
      power_up = λ s sectors staging r h n.
          exactly_on_paper (power_up_rows s sectors staging) (at_rest s) r h.answer n;
    }
