-- The journal and the drive keep step: after every event the write that the journal has going is the drive's open one,
-- and the sectors are what the completed writes made of them.
-- Assumes nothing.
use Prim.Native.Nat.{ℕ, ◌+◌, ◌-◌, ◌<◌, ◌≤◌}
use mathlib.Core.Path.{◌≡◌, refl, sym, ap, subst, ◌∙◌}
use mathlib.Core.Bool.{Bool, true, false, not, ◌&&◌, ◌||◌, and-false, true≢false, false≢true}
use mathlib.Core.List.{List, [], ◌∷◌, ◌++◌}
use mathlib.Core.Option.{Option, some, none}
use native.Mathlib.Numerals.{add-one}
use native.Mathlib.Omega.{arith}
use borrow.Author.Tests.{eqb-true, leb-true, ltb-true, not-false}
use lib.Dec.{eqb, leb, ltb}
use lib.ListN.{length, get_or, take, set, length-append}
use lib.Seq.{length-take-le, take-suc-set, get_or-take}
use Rattle.laws.specs.Pick.{pick}
use Rattle.laws.proofs.Pick.{either, pick_alike, pick_le}
use Rattle.laws.proofs.Tests.{and_l, and_r, or_l}
use Rattle.parts.specs.Setup.{sector_start}
use Rattle.parts.specs.Command.{code_of}
use Rattle.parts.specs.Control.{control_of, is_write, gives_words, is_data, moves_header, names_field1, names_field2, part, words_to_come}
use Rattle.drive.specs.Answer.{Paper, paper}
use Rattle.parts.specs.Kind.{kind_of, word_of, place_of}
use Rattle.parts.specs.declared.kind.Kind.{Kind}
use Rattle.parts.specs.declared.kind.Kind.TheVariants.{Select, Deselect, Use, Reset, Unknown}
use Rattle.parts.specs.declared.kind.Work.{Work}
use Rattle.drive.specs.State.{Result, with_place, with_transfer, posted_on}
use Rattle.parts.specs.Tests.{moved_on, no_transfer, is_taking, is_giving}
use Rattle.drive.specs.Drive.{selected, deselected, after_reset, reserved, unreserved, priority_reserved, head_stepped, closed, ended}
use Rattle.drive.specs.Request.{octet2_cleared}
use Rattle.drive.specs.Command.{status_cleared}
use Rattle.drive.specs.Transfer.{committed}
use Rattle.drive.specs.Refusal.{row7, is_one_open}
use Rattle.drive.specs.Able.{Passable}
use Rattle.drive.specs.Run.{Machine, machine, answer_to, after, answers, final}
use Rattle.drive.specs.Accepted.{is_refused}
use Rattle.drive.specs.Frame.{is_in, word_written}
use Rattle.drive.specs.Journal.{Write, with_word, Page, page, noted, page_after, journal_from, last_write, Whole, AllWhole}
use Rattle.parts.specs.declared.command.Function.{Function}
use Rattle.parts.specs.declared.control.Control.{Control}
use Rattle.parts.specs.declared.transfer.Transfer.{Transfer}
use Rattle.parts.specs.declared.setup.Setup.{Setup}
use Rattle.drive.specs.Frame as frame
use Rattle.drive.specs.declared.drive.Drive.{Drive}
use Rattle.parts.specs.declared.event.Event.{Event}
use Rattle.drive.specs.declared.answer.Answer.{Answer}
use Rattle.drive.specs.declared.answer.Outcome.{Outcome}
use Rattle.parts.proofs.ByBits.{writes_take, write_is_data}
use Rattle.parts.proofs.Bounds.{words_within, write_words}
use Rattle.drive.proofs.Sound.{sound, room}
use Rattle.drive.proofs.Own.{able_to_write}
use Rattle.drive.proofs.Frame.{commit_frame, staged_room}
use Rattle.drive.proofs.Laws.{by_cases, done_by, left, AllPassed, accepts}
use Rattle.drive.proofs.StaysSound.{same_size_lem}
use Rattle.drive.proofs.Outcomes

-- ---- the write that the drive has open

abbrev pub is_write_open : Transfer → Bool
is_write_open t = is_write (control_of t.control)

abbrev open_write : Drive → List ℕ → Write
open_write d staging = record { control = d.transfer.control; place = d.place; words = take d.transfer.moved staging }

unfoldable pub going_on : Drive → List ℕ → Option Write
going_on d staging = pick (is_write_open d.transfer) (some (open_write d staging)) none

pub none_going : (d : Drive) (staging : List ℕ) → is_write_open d.transfer ≡ false → going_on d staging ≡ none
unfolding going_on pick
none_going d staging h = rw h

one_going : (d : Drive) (staging : List ℕ) → is_write_open d.transfer ≡ true → going_on d staging ≡ some (open_write d staging)
unfolding going_on pick
one_going d staging h = rw h

-- no write is open without a transfer
pub no_write : is_write_open no_transfer ≡ false
unfolding control_of code_of pick
no_write = refl

none_after_lem : (d : Drive) (staging : List ℕ) → going_on (ended d) staging ≡ none
unfolding ended
none_after_lem d staging = none_going (ended d) staging no_write

giving_not_write : (k : Control) → gives_words k ≡ true → is_write k ≡ false
giving_not_write Control.Write h = absurd (false≢true h)
giving_not_write Control.Read h = refl
giving_not_write Control.Command h = refl
giving_not_write Control.Response h = refl
giving_not_write Control.StepHead h = refl
giving_not_write Control.Reserved h = refl
giving_not_write Control.Unsupported h = refl
giving_not_write Control.Invalid h = refl

-- a transfer that takes words is a write if it is of data, else a command
pub write_open : (t : Transfer) → is_data t.control ≡ true → not (is_taking t) ≡ false → is_write_open t ≡ true
write_open t high h = writes_take t.control ∙ rw (not-false (is_taking t) h, high)

write_takes : (t : Transfer) → is_write_open t ≡ true → is_taking t ≡ true
write_takes t w = and_l (is_taking t) (is_data t.control) (sym (writes_take t.control) ∙ w)

pub low_not_write : (t : Transfer) → is_data t.control ≡ false → is_write_open t ≡ false
low_not_write t low = writes_take t.control ∙ rw low (and-false (is_taking t))

-- ---- kinds 3 to 9

-- kinds 3, 7 and 8 that were stopped or bad leave the page as it was
request_noted : {work : Work} {e : Event} → frame.ClearsFirst e (Use work) → (told : Paper) (going : Option Write) → told.place ≡ none → noted (Use work) e told going ≡ page going []
request_noted (frame.control n) told going h = rw h
request_noted frame.position told going h = refl
request_noted frame.target told going h = refl

-- where no write is open before and after
still_none : (d d' : Drive) (staging : List ℕ) → is_write_open d.transfer ≡ false → is_write_open d'.transfer ≡ false
    → page (going_on d staging) [] ≡ page (going_on d' staging) []
still_none d d' staging h h' = rw (none_going d staging h, none_going d' staging h')

not_written : (d : Drive) → (is_taking d.transfer || is_giving d.transfer) ≡ false → is_write_open d.transfer ≡ false
not_written d h = writes_take d.transfer.control ∙ rw (or_l (is_taking d.transfer) (is_giving d.transfer) h)

being_read : (d : Drive) → not (is_giving d.transfer) ≡ false → is_write_open d.transfer ≡ false
being_read d h = giving_not_write (control_of d.transfer.control) (not-false (is_giving d.transfer) h)

-- a command or response leaves no write open
function_closed : {d at : Drive} {f : Function} → Outcomes.FunctionDone d f at → is_write_open d.transfer ≡ false → is_write_open at.transfer ≡ false
unfolding reserved unreserved priority_reserved
function_closed Outcomes.prioritised h = h
function_closed Outcomes.reserves h = h
function_closed Outcomes.releases h = h
function_closed Outcomes.idles h = h
function_closed Outcomes.recalibrates h = h

pub exchange_closed : {d : Drive} {e : Event} {work : Work} {o : Outcome} → is_data d.transfer.control ≡ false → Outcomes.Exchanged d e work o
    → is_write_open o.drive.transfer ≡ false
unfolding closed posted_on status_cleared
exchange_closed {d} low (Outcomes.kept z) = low_not_write d.transfer low
exchange_closed low (Outcomes.obeys (Outcomes.by_function z q f)) = function_closed f no_write
exchange_closed low (Outcomes.obeys (Outcomes.by_seek z i j)) = no_write
exchange_closed low (Outcomes.disobeys b) = no_write
exchange_closed {d} low (Outcomes.tells z) = low_not_write d.transfer low
exchange_closed low (Outcomes.tells_last z) = either (λ (at : Drive). is_write_open at.transfer ≡ false) _ no_write no_write
exchange_closed low Outcomes.cut = no_write

-- the journal notes nothing of one
nothing_noted : {d : Drive} {e : Event} {work : Work} {o : Outcome} → Outcomes.Exchanged d e work o → (told : Paper) → noted (Use work) e told none ≡ page none []
nothing_noted (Outcomes.kept z) told = refl
nothing_noted (Outcomes.obeys h) told = refl
nothing_noted (Outcomes.disobeys b) told = refl
nothing_noted (Outcomes.tells z) told = refl
nothing_noted (Outcomes.tells_last z) told = refl
nothing_noted Outcomes.cut told = refl

exchange_noted : {d : Drive} {e : Event} {work : Work} {o : Outcome} (staging : List ℕ) → is_data d.transfer.control ≡ false → Outcomes.Exchanged d e work o
    → noted (Use work) e (paper o.answer) (going_on d staging) ≡ page (going_on o.drive staging) []
exchange_noted {d} {o = o} staging low x =
    rw (none_going d staging (low_not_write d.transfer low), none_going o.drive staging (exchange_closed low x)) (nothing_noted x (paper o.answer))

asked_noted : {d : Drive} {e : Event} {work : Work} {o : Outcome} (staging : List ℕ) → is_one_open d ≡ false → Outcomes.Asked d e work o
    → noted (Use work) e (paper o.answer) (going_on d staging) ≡ page (going_on o.drive staging) []
unfolding paper going_on posted_on head_stepped ended
asked_noted {d} staging t (Outcomes.bad q b) = request_noted q _ (going_on d staging) refl
asked_noted {d} staging t (Outcomes.stepped k) = still_none d (head_stepped d) staging (not_written d t) (not_written d t)
asked_noted {d} staging t (Outcomes.nothing_to_come {at = at} q w) = still_none d (ended at) staging (not_written d t) no_write
asked_noted {d} staging t (Outcomes.opens q o z) = refl
asked_noted {d} {e} staging t (Outcomes.placed h) = still_none d (with_place d (place_of e)) staging (not_written d t) (not_written d t)
asked_noted {d} staging t (Outcomes.aimed h) = refl

quiet_noted : {d : Drive} {e : Event} {sectors : List ℕ} {work : Work} {o : Outcome} (staging : List ℕ) → row7 work d ≡ false → Outcomes.Quiet d e sectors work o
    → noted (Use work) e (paper o.answer) (going_on d staging) ≡ page (going_on o.drive staging) []
unfolding paper going_on posted_on octet2_cleared ended
quiet_noted {d} staging t (Outcomes.unsolicited q z) = request_noted q _ (going_on d staging) refl
quiet_noted {d} staging t (Outcomes.asked (Outcomes.afresh q z) x) = asked_noted staging (Outcomes.request_idle d q t) x
quiet_noted staging t (Outcomes.asked (Outcomes.as_it_was z) x) = asked_noted staging t x
quiet_noted {d} staging t (Outcomes.taken_last high) = still_none d (ended d) staging (being_read d t) no_write
quiet_noted {d} staging t (Outcomes.taken high z) =
    still_none d (with_transfer d (moved_on d.transfer (d.transfer.moved + 1))) staging (being_read d t) (being_read d t)
quiet_noted staging t (Outcomes.exchanged low x) = exchange_noted staging low x
quiet_noted {d} staging t (Outcomes.ends high) = ap (λ going. page going []) (sym (none_going (ended d) staging no_write))
quiet_noted {d} staging t Outcomes.status_told = refl

-- ---- a completed write

-- an address within a named part is that of one of its words
part_words : (named : Bool) (start count address : ℕ) → (named && is_in start count address) ≡ true → address - start < part named count
unfolding pick
part_words false start count address h = absurd (false≢true h)
part_words true start count address h =
    let low = leb-true start address (and_l (leb start address) (ltb address (start + count)) h) in
    let high = ltb-true address (start + count) (and_r (leb start address) (ltb address (start + count)) h) in
    omega arith

-- no word behind those that came is written
enough_words : (s : Setup) (c start : ℕ) (words : List ℕ) (address before : ℕ) → is_write (control_of c) ≡ true
    → word_written s c start words address before ≡ word_written s c start (take (words_to_come s c) words) address before
unfolding word_written
enough_words s c start words address before w =
    let n = write_words s c w in
    let word : (i : ℕ) → i < words_to_come s c → get_or words i 0 ≡ get_or (take (words_to_come s c) words) i 0 = λ i h. sym (get_or-take (words_to_come s c) words i 0 h) in
    pick_alike (moves_header c && is_in start s.header address)
    (λ h. word (address - start) (omega (arith, part_words (moves_header c) start s.header address h, pick_le (moves_header c) s.header)))
    (pick_alike (names_field1 c && is_in (start + s.header) s.field1 address)
    (λ h. word _ (omega (arith, part_words (names_field1 c) (start + s.header) s.field1 address h)))
    (pick_alike (names_field2 c && is_in (start + s.header + s.field1) s.field2 address)
    (λ h. word _ (omega (arith, part_words (names_field2 c) (start + s.header + s.field1) s.field2 address h))) refl))

-- the journal's page and the machine after an event
record InStep (m : Machine) (p : Page) (n : Machine) : Type 0 where
  going : p.going ≡ going_on n.drive n.staging
  word : (address : ℕ) → get_or n.sectors address 0 ≡ last_write m.drive.setup p.complete address (get_or m.sectors address 0)
  whole : AllWhole m.drive.setup p.complete

-- nothing completed, no sector word changed
nothing_complete : {m n : Machine} {p : Page} → n.sectors ≡ m.sectors → p ≡ page (going_on n.drive n.staging) [] → InStep m p n
unfolding last_write
nothing_complete {m} {n} {p} e q =
    let none-complete = ap (λ p. p.complete) q in
    record { going = ap (λ p. p.going) q; word = λ address. rw (none-complete, e); whole = rw none-complete tt }

-- the staged words with the one that came
words_so_far : (d : Drive) (e : Event) (sectors staging : List ℕ) → Passable d sectors staging → is_write_open d.transfer ≡ true
    → take (d.transfer.moved + 1) (set staging d.transfer.moved (word_of e)) ≡ take d.transfer.moved staging ++ (word_of e ∷ [])
words_so_far d e sectors staging p w =
    let r = room d sectors staging p.sound p.room in
    rw add-one (take-suc-set staging d.transfer.moved (word_of e) (omega (arith, (able_to_write p (write_takes d.transfer w)).moved, words_within d.setup d.transfer.control (write_is_data d.transfer.control w), r.stage)))

-- the last word: the commit writes what the journal has
committed_word : (d : Drive) (e : Event) (sectors staging : List ℕ) (address : ℕ) → Passable d sectors staging → is_write_open d.transfer ≡ true
    → eqb (d.transfer.moved + 1) (words_to_come d.setup d.transfer.control) ≡ true
    → let start = sector_start d.setup d.place in
    get_or (committed d.setup d.transfer.control start sectors (set staging d.transfer.moved (word_of e))) address 0
    ≡ word_written d.setup d.transfer.control start (take d.transfer.moved staging ++ (word_of e ∷ [])) address (get_or sectors address 0)
committed_word d e sectors staging address p w z =
    let c = d.transfer.control in
    let start = sector_start d.setup d.place in
    let all = set staging d.transfer.moved (word_of e) in
    let last = eqb-true (d.transfer.moved + 1) (words_to_come d.setup c) z in
    (commit_frame d.setup c start sectors all (staged_room d.transfer.moved (word_of e) (room d sectors staging p.sound p.room))).word address
    ∙ enough_words d.setup c start all address (get_or sectors address 0) w
    ∙ ap (λ words. word_written d.setup c start words address (get_or sectors address 0)) (ap (λ n. take n all) (sym last) ∙ words_so_far d e sectors staging p w)

-- and the write that it completes is whole
completed_whole : (d : Drive) (e : Event) (sectors staging : List ℕ) → Passable d sectors staging → is_write_open d.transfer ≡ true
    → eqb (d.transfer.moved + 1) (words_to_come d.setup d.transfer.control) ≡ true → Whole d.setup (with_word (open_write d staging) (word_of e))
completed_whole d e sectors staging p w z =
    let r = room d sectors staging p.sound p.room in
    let last = eqb-true (d.transfer.moved + 1) (words_to_come d.setup d.transfer.control) z in
    let there : d.transfer.moved ≤ length staging = omega (arith, words_within d.setup d.transfer.control (write_is_data d.transfer.control w), r.stage) in
    record {
      control = w;
      place = (sound d p.sound).place;
      words = length-append (take d.transfer.moved staging) (word_of e ∷ []) ∙ ap (λ (n : ℕ). n + 1) (length-take-le d.transfer.moved staging there) ∙ last;
    }

work_noted : {d : Drive} {e : Event} {sectors staging : List ℕ} {work : Work} {r : Result} → Passable d sectors staging → row7 work d ≡ false
    → Outcomes.WorkDone d e sectors staging work r → InStep (machine d sectors staging) (noted (Use work) e (paper r.outcome.answer) (going_on d staging)) (left r)
unfolding paper pick last_write
work_noted {staging = staging} p t (Outcomes.quiet q) = nothing_complete refl (quiet_noted staging t q)
work_noted {d} {e} {sectors} {staging} p t (Outcomes.miscompared high) =
    nothing_complete refl (rw (one_going d staging (write_open d.transfer high t), none_after_lem d (set staging d.transfer.moved (word_of e))))
work_noted {d} {e} {sectors} {staging} p t (Outcomes.completed high z) =
    let w = write_open d.transfer high t in
    let all = set staging d.transfer.moved (word_of e) in
    record {
      going = rw (one_going d staging w) (sym (none_after_lem d all));
      word = λ address. rw (one_going d staging w) (committed_word d e sectors staging address p w z);
      whole = rw (one_going d staging w) (completed_whole d e sectors staging p w z, tt);
    }
work_noted {d} {e} {sectors} {staging} p t (Outcomes.more high z) =
    let w = write_open d.transfer high t in
    nothing_complete refl (rw (one_going d staging w, ← (words_so_far d e sectors staging p w)) (ap (λ going. page going []) (sym (one_going _ _ w))))

-- ---- every kind

-- an event that leaves no write open and the sectors as they were
ended_by : {m : Machine} (n : Machine) → n.sectors ≡ m.sectors → is_write_open n.drive.transfer ≡ false → InStep m (page none []) n
ended_by n e h = nothing_complete e (ap (λ going. page going []) (sym (none_going n.drive n.staging h)))

kind_noted : (k : Kind) (m : Machine) (e : Event) → AllPassed k m e
    → InStep m (noted k e (paper (done_by k m e).outcome.answer) (going_on m.drive m.staging)) (left (done_by k m e))
unfolding selected deselected after_reset
kind_noted Select m e p = ended_by _ refl no_write
kind_noted Deselect m e p = ended_by _ refl (not_written m.drive p.own.1.0)
kind_noted Reset m e p = ended_by _ refl no_write
kind_noted Unknown m e p = absurd (true≢false p.formed)
kind_noted (Use work) m e p =
    work_noted (record { sound = p.sound; room = p.room }) p.own.1.0 (Outcomes.work_done m.drive e m.sectors m.staging work)

page_as : (k : Kind) (e : Event) (answer : Answer) (going : Option Write) → kind_of e.kind ≡ k → is_refused answer ≡ false
    → page_after e answer going ≡ noted k e (paper answer) going
unfolding page_after pick
page_as k e answer going z h = rw (z, h)

in_step : (m : Machine) (e : Event) → InStep m (page_after e (answer_to m e) (going_on m.drive m.staging)) (after m e)
unfolding page_after pick
in_step m e =
    by_cases (λ answer next. InStep m (page_after e answer (going_on m.drive m.staging)) next) m e (λ n z. nothing_complete refl refl)
    (λ k z p. rw (page_as k e (done_by k m e).outcome.answer (going_on m.drive m.staging) z (accepts k m e)) (kind_noted k m e p))

-- ---- runs

later_write : (s : Setup) (early late : List Write) (address before : ℕ) → last_write s (early ++ late) address before ≡ last_write s late address (last_write s early address before)
unfolding last_write
later_write s [] late address before = refl
later_write s (write ∷ early) late address before = later_write s early late address _

-- the sectors are what the journal's writes made of them
pub as_journalled : (m : Machine) (events : List Event) (address : ℕ)
    → get_or (final m events).sectors address 0
    ≡ last_write m.drive.setup (journal_from (going_on m.drive m.staging) events (answers m events)) address (get_or m.sectors address 0)
unfolding final answers journal_from last_write
as_journalled m [] address = refl
as_journalled m (e ∷ events) address =
    let now = in_step m e in
    as_journalled (after m e) events address
    ∙ rw ((same_size_lem m e).setup, now.going, later_write, now.word address)

-- every write that the journal notes is whole
all_whole : (s : Setup) (early late : List Write) → AllWhole s early → AllWhole s late → AllWhole s (early ++ late)
all_whole s [] late e l = l
all_whole s (write ∷ early) late e l = (e.0, all_whole s early late e.1 l)

pub whole_from : (m : Machine) (events : List Event) → AllWhole m.drive.setup (journal_from (going_on m.drive m.staging) events (answers m events))
unfolding answers journal_from
whole_from m [] = tt
whole_from m (e ∷ events) =
    let now = in_step m e in
    let told = answers (after m e) events in
    let going = (page_after e (answer_to m e) (going_on m.drive m.staging)).going in
    let later : AllWhole (after m e).drive.setup (journal_from going events told) = rw now.going (whole_from (after m e) events) in
    all_whole m.drive.setup (page_after e (answer_to m e) (going_on m.drive m.staging)).complete (journal_from going events told) now.whole
    (subst (λ (s : Setup). AllWhole s (journal_from going events told)) (same_size_lem m e).setup later)
