-- `stays_sound`: no event leads a sound drive with slices long enough to one that rows 11 and 10 refuse.
-- Assumes nothing.
use Prim.Native.Nat.{ℕ, ◌+◌, ◌≤◌, ◌<◌}
use mathlib.Core.Path.{◌≡◌, refl}
use mathlib.Core.Bool.{true, false, or-true, true≢false}
use mathlib.Core.List.{List, [], ◌∷◌}
use native.Mathlib.Omega.{arith}
use borrow.Author.Tests.{eqb-false, ltb-false, ne_eqb, not-false}
use lib.Dec.{eqb}
use lib.ListN.{length, length-set}
use Rattle.laws.specs.Pick.{pick}
use Rattle.laws.proofs.Pick.{either}
use Rattle.laws.proofs.Rows.{numbered_up_to, first_up_to}
use Rattle.laws.specs.Rows.{◌when◌}
use Rattle.parts.specs.Holding.{nobody, at_least_plain}
use Rattle.parts.specs.declared.command.Function.{Function}
use Rattle.parts.specs.declared.holding.Hold.TheVariants.{None, Strong}
use Rattle.parts.specs.Pending.{nothing_pending}
use Rattle.drive.specs.Answer.{refusal_in}
use Rattle.parts.specs.Kind.{kind_of, word_of}
use Rattle.parts.specs.declared.kind.Kind.{Kind}
use Rattle.parts.specs.declared.kind.Kind.TheVariants.{Select, Deselect, Use, Reset, Unknown}
use Rattle.parts.specs.declared.kind.Work.{Work}
use Rattle.drive.specs.State.{Result, posted_on}
use Rattle.drive.specs.Drive.{owner_noticed, selected, deselected, after_reset, reserved, unreserved, priority_reserved, at_its_target, closed}
use Rattle.drive.specs.Request.{octet2_cleared}
use Rattle.drive.specs.Command.{status_cleared}
use Rattle.drive.specs.Refusal.{row1, row7, row10, own_rows, refusal_of}
use Rattle.parts.specs.Tests.{is_taking, is_giving}
use Rattle.drive.specs.Able.{Passable}
use Rattle.drive.specs.Run.{Machine, answer_to, after, answers}
use Rattle.drive.specs.Accepted.{is_refused}
use Rattle.drive.specs.StaysSound.{IsSound, SameSize, Never11Or10, StaysSound}
use Rattle.drive.specs.declared.drive.Drive.{Drive}
use Rattle.parts.specs.declared.event.Event.{Event}
use Rattle.drive.specs.declared.answer.Answer.{Answer}
use Rattle.drive.specs.declared.answer.Outcome.{Outcome}
use Rattle.drive.specs.declared.answer.Answer.TheVariants.{Refused, Done, Status, Opened, Word, LastWord, Response}
use Rattle.drive.proofs.Sound.{Sound, sound, unsound, room}
use Rattle.drive.proofs.Own.{able_to_write, able_to_read}
use Rattle.drive.proofs.Frame.{commit_frame, staged_room}
use Rattle.drive.proofs.EveryAnswer.{named_right}
use Rattle.drive.proofs.Laws.{by_cases, done_by, left, AllPassed, stays, accepts, its_own}
use Rattle.drive.proofs.SoundPlace.{place_kept, recalibrated_kept, head_step_kept, at_target_kept, target_kept, posted_kept, pending_stray, fault_stray, nothing_stray, cleared_kept}
use Rattle.drive.proofs.SoundHolding.{closed_kept, ended_kept, transfer_kept, hold_kept, selected_kept, deselected_kept, reset_kept, rest_sound}
use Rattle.drive.proofs.Outcomes

-- ---- kinds 3 to 9

-- one more word of an open transfer that has another to come
one_more : (moved words : ℕ) → moved < words → eqb (moved + 1) words ≡ false → moved + 1 < words
one_more moved words h z = omega (arith, eqb-false (moved + 1) words z)

some_to_come : (words : ℕ) → eqb words 0 ≡ false → 0 < words
some_to_come words z = omega (arith, eqb-false words 0 z)

function_sound : {d at : Drive} {f : Function} → Sound d → eqb d.holding.selected nobody ≡ false → Outcomes.FunctionDone d f at → Sound at
unfolding reserved unreserved priority_reserved
function_sound s n Outcomes.prioritised = hold_kept Strong s n
function_sound {d} s n Outcomes.reserves = hold_kept (at_least_plain d.holding.hold) s n
function_sound s n Outcomes.releases = hold_kept None s n
function_sound s n Outcomes.idles = s
function_sound s n Outcomes.recalibrates = recalibrated_kept s

exchange_sound : {d : Drive} {e : Event} {sectors staging : List ℕ} {work : Work} {o : Outcome} → Passable d sectors staging
    → eqb d.holding.selected nobody ≡ false → row7 work d ≡ false → Outcomes.Exchanged d e work o → Sound o.drive
unfolding closed status_cleared
exchange_sound {d} p n t (Outcomes.kept z) =
    let w = not-false (is_taking d.transfer) t in
    transfer_kept (sound d p.sound) n (rw w) (one_more d.transfer.moved _ (able_to_write p w).moved z)
exchange_sound {d} p n t (Outcomes.obeys (Outcomes.by_function z q f)) = function_sound (closed_kept (sound d p.sound)) n f
exchange_sound {d} p n t (Outcomes.obeys (Outcomes.by_seek z i j)) = target_kept (place_kept (closed_kept (sound d p.sound)) i) j
exchange_sound {d} {e} p n t (Outcomes.disobeys b) =
    let s = closed_kept (sound d p.sound) in posted_kept e.port _ s (fault_stray _ (Outcomes.its_bit b) (pending_stray e.port s))
exchange_sound {d} p n t (Outcomes.tells z) =
    let r = not-false (is_giving d.transfer) t in
    transfer_kept (sound d p.sound) n (rw r (or-true (is_taking d.transfer))) (one_more d.transfer.moved _ (able_to_read p r).moved z)
exchange_sound {d} {e} p n t (Outcomes.tells_last z) =
    let s = closed_kept (sound d p.sound) in either Sound _ (posted_kept e.port nothing_pending s nothing_stray) s
exchange_sound {d} p n t Outcomes.cut = closed_kept (sound d p.sound)

-- with octet 2 cleared a drive is as sound
pub cleared_passable : {d : Drive} {sectors staging : List ℕ} (port : ℕ) → Passable d sectors staging → Passable (octet2_cleared d port) sectors staging
unfolding octet2_cleared posted_on
cleared_passable {d} port p = record { sound = unsound _ (cleared_kept port (sound d p.sound)); room = p.room }

asked_sound : {d : Drive} {e : Event} {work : Work} {o : Outcome} → Sound d → eqb d.holding.selected nobody ≡ false → Outcomes.Asked d e work o → Sound o.drive
unfolding at_its_target
asked_sound {e = e} s n (Outcomes.bad q b) = posted_kept e.port _ s (fault_stray _ b (pending_stray e.port s))
asked_sound s n (Outcomes.stepped k) = head_step_kept s
asked_sound s n (Outcomes.nothing_to_come (Outcomes.in_place a) w) = ended_kept s
asked_sound s n (Outcomes.nothing_to_come (Outcomes.at_target a z) w) = ended_kept (at_target_kept s z)
asked_sound s n (Outcomes.opens (Outcomes.in_place a) o z) = transfer_kept s n o (some_to_come _ z)
asked_sound s n (Outcomes.opens (Outcomes.at_target a y) o z) = transfer_kept (at_target_kept s y) n o (some_to_come _ z)
asked_sound s n (Outcomes.placed h) = place_kept s h
asked_sound s n (Outcomes.aimed h) = target_kept s h

quiet_sound : {d : Drive} {e : Event} {sectors staging : List ℕ} {work : Work} {o : Outcome} → Passable d sectors staging → eqb d.holding.selected nobody ≡ false
    → row7 work d ≡ false → Outcomes.Quiet d e sectors work o → Sound o.drive
unfolding posted_on octet2_cleared
quiet_sound {d} p n t (Outcomes.unsolicited q z) = sound d p.sound
quiet_sound {d} {e} p n t (Outcomes.asked (Outcomes.afresh c z) x) = asked_sound (cleared_kept e.port (sound d p.sound)) n x
quiet_sound {d} p n t (Outcomes.asked (Outcomes.as_it_was z) x) = asked_sound (sound d p.sound) n x
quiet_sound {d} p n t (Outcomes.taken_last high) = ended_kept (sound d p.sound)
quiet_sound {d} p n t (Outcomes.taken high z) =
    let r = not-false (is_giving d.transfer) t in
    transfer_kept (sound d p.sound) n (rw r (or-true (is_taking d.transfer))) (one_more d.transfer.moved _ (able_to_read p r).moved z)
quiet_sound {d} p n t (Outcomes.ends high) = ended_kept (sound d p.sound)
quiet_sound p n t (Outcomes.exchanged low x) = exchange_sound p n t x
quiet_sound {d} {e} p n t Outcomes.status_told = posted_kept e.port nothing_pending (sound d p.sound) nothing_stray

work_sound : {d : Drive} {e : Event} {sectors staging : List ℕ} {work : Work} {r : Result} → Passable d sectors staging → eqb d.holding.selected nobody ≡ false
    → row7 work d ≡ false → Outcomes.WorkDone d e sectors staging work r → Sound r.outcome.drive
work_sound p n t (Outcomes.quiet q) = quiet_sound p n t q
work_sound {d} p n t (Outcomes.miscompared high) = ended_kept (sound d p.sound)
work_sound {d} p n t (Outcomes.completed high z) = ended_kept (sound d p.sound)
work_sound {d} p n t (Outcomes.more high z) =
    let w = not-false (is_taking d.transfer) t in
    transfer_kept (sound d p.sound) n (rw w) (one_more d.transfer.moved _ (able_to_write p w).moved z)

-- ---- every kind

kind_sound : (k : Kind) (m : Machine) (e : Event) → AllPassed k m e → Sound (done_by k m e).outcome.drive
kind_sound Select m e p = selected_kept e.port e.a0 (omega (arith, ltb-false 1 e.port p.port)) (sound m.drive p.sound)
kind_sound Deselect m e p = deselected_kept (sound m.drive p.sound) p.own.1.0
kind_sound Reset m e p = reset_kept (sound m.drive p.sound)
kind_sound Unknown m e p = absurd (true≢false p.formed)
kind_sound (Use work) m e p =
    let n = ne_eqb m.drive.holding.selected nobody (λ z. omega (arith, its_own m e p.own.0, ltb-false 1 e.port p.port)) in
    work_sound (record { sound = p.sound; room = p.room }) n p.own.1.0 (Outcomes.work_done m.drive e m.sectors m.staging work)

-- ---- the set-up and the lengths

work_size : {d : Drive} {e : Event} {sectors staging : List ℕ} {work : Work} {r : Result} → Passable d sectors staging → Outcomes.WorkDone d e sectors staging work r
    → (length r.sectors ≡ length sectors) × (length r.staging ≡ length staging)
work_size p (Outcomes.quiet q) = (refl, refl)
work_size {staging = staging} p (Outcomes.miscompared high) = (refl, length-set staging _ _)
work_size {d} {e} {sectors} {staging} p (Outcomes.completed high z) =
    ((commit_frame d.setup _ _ sectors _ (staged_room d.transfer.moved (word_of e) (room d sectors staging p.sound p.room))).size, length-set staging _ _)
work_size {staging = staging} p (Outcomes.more high z) = (refl, length-set staging _ _)

kind_size : (k : Kind) (m : Machine) (e : Event) → AllPassed k m e → SameSize m (left (done_by k m e))
unfolding selected owner_noticed posted_on deselected after_reset
kind_size Select m e p = record { setup = either (λ (d : Drive). d.setup ≡ m.drive.setup) _ refl refl; sectors = refl; staging = refl }
kind_size Deselect m e p = record { setup = refl; sectors = refl; staging = refl }
kind_size Reset m e p = record { setup = refl; sectors = refl; staging = refl }
kind_size Unknown m e p = record { setup = refl; sectors = refl; staging = refl }
kind_size (Use work) m e p =
    let l = work_size (record { sound = p.sound; room = p.room }) (Outcomes.work_done m.drive e m.sectors m.staging work) in
    record { setup = (stays work m e).setup; sectors = l.0; staging = l.1 }

pub same_size_lem : (m : Machine) (e : Event) → SameSize m (after m e)
same_size_lem m e =
    by_cases (λ answer next. SameSize m next) m e (λ n z. record { setup = refl; sectors = refl; staging = refl }) (λ k z p. kind_size k m e p)

-- ---- runs

same_room : (m n : Machine) → SameSize m n → row10 m.drive.setup m.sectors m.staging ≡ false → row10 n.drive.setup n.sectors n.staging ≡ false
unfolding row10
same_room m n s h = rw (s.setup, s.sectors, s.staging) h

pub sound_after : (m : Machine) (e : Event) → IsSound m → IsSound (after m e)
sound_after m e s =
    by_cases (λ answer next. SameSize m next → IsSound next) m e (λ n z l. s)
    (λ k z p l. record { sound = unsound _ (kind_sound k m e p); room = same_room m (left (done_by k m e)) l s.room })
    (same_size_lem m e)

-- without 11 and 10 the numbers end at 8
small_numbers : (k : Kind) (d : Drive) (e : Event) → numbered_up_to 8 (1 when row1 e ∷ own_rows k d e) ≡ true
small_numbers Select d e = refl
small_numbers Deselect d e = refl
small_numbers Reset d e = refl
small_numbers Unknown d e = refl
small_numbers (Use work) d e = refl

small_refusal : (k : Kind) (m : Machine) (e : Event) → IsSound m → refusal_of k m.drive e m.sectors m.staging ≤ 8
unfolding refusal_of pick
small_refusal k m e s = rw (s.sound, s.room) (first_up_to 8 (1 when row1 e ∷ own_rows k m.drive e) (small_numbers k m.drive e))

pub no_refusal : (answer : Answer) → is_refused answer ≡ false → refusal_in answer ≡ 0
no_refusal (Refused refusal) h = absurd (true≢false h)
no_refusal Done h = refl
no_refusal (Status s) h = refl
no_refusal (Opened n p) h = refl
no_refusal (Word w) h = refl
no_refusal (LastWord w) h = refl
no_refusal (Response octet0 octet1 octet2) h = refl

small_answer : (m : Machine) (e : Event) → IsSound m → refusal_in (answer_to m e) ≤ 8
small_answer m e s =
    by_cases (λ answer next. refusal_in answer ≤ 8) m e (λ n z. rw (named_right (kind_of e.kind) m.drive e m.sectors m.staging n z) (omega (arith, z, small_refusal (kind_of e.kind) m e s)))
    (λ k z p. omega (arith, no_refusal (done_by k m e).outcome.answer (accepts k m e)))

never_11_or_10 : (m : Machine) (events : List Event) → IsSound m → Never11Or10 (answers m events)
unfolding answers
never_11_or_10 m [] s = tt
never_11_or_10 m (e ∷ events) s = (small_answer m e s, never_11_or_10 (after m e) events (sound_after m e s))

pub stays_sound : StaysSound
stays_sound =
    record {
      sound = sound_after;
      same_size = same_size_lem;
      at_rest = λ s sectors staging h r. record { sound = unsound _ (rest_sound s h); room = r };
      never_11_or_10 = never_11_or_10;
    }
