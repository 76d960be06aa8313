-- Of kinds 3 to 9 only functions change the hold; commands and responses keep out of the lent words and leave the sector; one cut short does nothing.
-- Assumes nothing.
use Prim.Native.Nat.{ℕ, suc, ◌+◌, ◌<◌}
use mathlib.Core.Path.{◌≡◌, refl, sym, ap, subst, ◌∙◌}
use mathlib.Core.Bool.{Bool, true, false, ◌||◌, true≢false}
use mathlib.Core.List.{List}
use mathlib.Core.Logic.{◌⊎◌, inl, inr}
use native.Mathlib.Numerals.{add-one}
use native.Mathlib.Omega.{arith}
use borrow.Author.Tests.{eqb-true, eqb-false, ne_eqb, not-false}
use lib.Dec.{eqb}
use Rattle.laws.specs.Pick.{pick}
use Rattle.laws.proofs.Pick.{either, cases}
use Rattle.parts.specs.Command.{load_drive_function, read_status, parameter_words}
use Rattle.parts.specs.Control.{control_of, is_write, is_read, takes_words, gives_words, is_data, words_to_come}
use Rattle.parts.specs.Holding.{with_hold, is_owned_by_other, granted_to}
use Rattle.parts.specs.Kind.{kind_of, word_of}
use Rattle.parts.specs.declared.kind.Kind.TheVariants.{Select, Use, Reset}
use Rattle.parts.specs.declared.kind.Work.{Work}
use Rattle.parts.specs.declared.kind.Work.TheVariants.{DataControl, WordFromHost, TakeWord, End}
use Rattle.parts.specs.Tests.{is_taking, no_parameters, transferring, transferring_with, no_transfer}
use Rattle.parts.specs.declared.command.Function.{Function}
use Rattle.parts.specs.declared.holding.Hold.{Hold}
use Rattle.parts.specs.declared.setup.Place.{Place}
use Rattle.parts.specs.declared.event.Event.{Event}
use Rattle.parts.specs.declared.transfer.Parameters.{Parameters}
use Rattle.parts.specs.declared.transfer.Transfer.{Transfer}
use Rattle.parts.proofs.ByBits.{write_is_data, read_is_data, codes_in_place}
use Rattle.drive.specs.State.{with_holding, with_transfer, pending_on, posted_on, Result}
use Rattle.drive.specs.Drive.{owner_noticed, selected, after_reset, reserved, unreserved, priority_reserved, head_stepped, at_its_target, closed, ended}
use Rattle.drive.specs.Request.{octet2_cleared}
use Rattle.drive.specs.Command.{kept_as, place_sought, status_cleared, parameter_sent, response_taken, word_from_host, word_to_host, ended_early}
use Rattle.drive.specs.Refusal.{row7}
use Rattle.drive.specs.Able.{Passable}
use Rattle.drive.specs.Accepted.{is_refused}
use Rattle.drive.specs.Run.{Machine, machine, answer_to, after}
use Rattle.drive.specs.Sessions.{Is}
use Rattle.drive.specs.CutShort.{Cuts, by_end, by_takeover, by_reset}
use Rattle.drive.specs.Commands.{hold_after, hold_left, HoldsByCommand, KeptOut, CommandsKeepOut, as_opened, cut_alone, CommandCutShort}
use Rattle.drive.specs.Frame as frame
use Rattle.drive.specs.declared.drive.Drive.{Drive}
use Rattle.drive.specs.declared.answer.Answer.{Answer}
use Rattle.drive.specs.declared.answer.Outcome.{Outcome}
use Rattle.drive.proofs.Own.{able_to_write}
use Rattle.drive.proofs.Laws.{by_kind, accepted_by, done_by, left, AllPassed}
use Rattle.drive.proofs.CutShort.{opened, words_passed}
use Rattle.drive.proofs.Outcomes

-- ---- what a command or response leaves

record Leaves (d : Drive) (e : Event) (work : Work) (at : Drive) : Type 0 where
  holding : at.holding ≡ with_hold d.holding (hold_left work d e)
  sector : at.place.sector ≡ d.place.sector

function_leaves : {d at : Drive} {f : Function} → Outcomes.FunctionDone d f at
    → (at.holding ≡ with_hold d.holding (hold_after f d.holding.hold)) × (at.place.sector ≡ d.place.sector)
unfolding reserved unreserved priority_reserved
function_leaves Outcomes.prioritised = (refl, refl)
function_leaves Outcomes.reserves = (refl, refl)
function_leaves Outcomes.releases = (refl, refl)
function_leaves Outcomes.idles = (refl, refl)
function_leaves Outcomes.recalibrates = (refl, refl)

sought_sector : (t : Transfer) (p : Place) (last : ℕ) → (place_sought t p last).sector ≡ p.sector
unfolding place_sought
sought_sector t p last =
    let P : Place → Type 0 = λ at. at.sector ≡ p.sector in
    either P _ refl (either P _ refl (either P _ refl refl))

-- 01 has one word
abbrev loads : Drive → Bool
loads d = eqb d.transfer.control load_drive_function

function_word : (d : Drive) → loads d ≡ true → words_to_come d.setup d.transfer.control ≡ 1
unfolding words_to_come parameter_words pick
function_word d f = rw (eqb-true d.transfer.control load_drive_function f)

module _ (d : Drive) (e : Event) (sectors staging : List ℕ) (p : Passable d sectors staging) where
  -- a function that changes no hold, or none at all
  still : d.holding ≡ with_hold d.holding (pick (loads d) d.holding.hold d.holding.hold)
  still = either (λ (hold : Hold). d.holding ≡ with_hold d.holding hold) _ refl refl

  exchange_leaves : {work : Work} {o : Outcome} → row7 work d ≡ false → Outcomes.Exchanged d e work o → Leaves d e work o.drive
  unfolding pick posted_on closed status_cleared
  exchange_leaves t (Outcomes.kept z) =
      record {
        holding =
            cases (λ (hold : Hold). d.holding ≡ with_hold d.holding hold) (loads d)
            (λ f. absurd (eqb-false (d.transfer.moved + 1) _ z (omega (arith, function_word d f, (able_to_write p (not-false (is_taking d.transfer) t)).moved))))
            (λ f. refl);
        sector = refl;
      }
  exchange_leaves t (Outcomes.obeys (Outcomes.by_function z q f)) = record { holding = rw (z, q) (function_leaves f).0; sector = (function_leaves f).1 }
  exchange_leaves t (Outcomes.obeys (Outcomes.by_seek z i j)) = record { holding = rw z; sector = sought_sector d.transfer d.place (word_of e) }
  exchange_leaves t (Outcomes.disobeys (Outcomes.acts_on_more q)) = record { holding = rw q still; sector = refl }
  exchange_leaves t (Outcomes.disobeys (Outcomes.not_listed q)) = record { holding = rw q still; sector = refl }
  exchange_leaves t (Outcomes.disobeys (Outcomes.outside z)) = record { holding = rw z; sector = refl }
  exchange_leaves t (Outcomes.tells z) = record { holding = refl; sector = refl }
  exchange_leaves t (Outcomes.tells_last z) =
      either (Leaves d e TakeWord) (eqb d.transfer.control read_status) (record { holding = refl; sector = refl }) (record { holding = refl; sector = refl })
  exchange_leaves t Outcomes.cut = record { holding = refl; sector = refl }

  -- ---- `holds_by_command`

  asked_holds : {at : Drive} {work : Work} {o : Outcome} → at.holding ≡ d.holding → Outcomes.Asked at e work o → o.drive.holding ≡ with_hold d.holding (hold_left work d e)
  unfolding posted_on head_stepped at_its_target ended
  asked_holds h (Outcomes.bad (frame.control n) b) = h
  asked_holds h (Outcomes.bad frame.position b) = h
  asked_holds h (Outcomes.bad frame.target b) = h
  asked_holds h (Outcomes.stepped k) = h
  asked_holds h (Outcomes.nothing_to_come (Outcomes.in_place a) w) = h
  asked_holds h (Outcomes.nothing_to_come (Outcomes.at_target a z) w) = h
  asked_holds h (Outcomes.opens (Outcomes.in_place a) o z) = h
  asked_holds h (Outcomes.opens (Outcomes.at_target a y) o z) = h
  asked_holds h (Outcomes.placed p) = h
  asked_holds h (Outcomes.aimed t) = h

  quiet_holds : {work : Work} {o : Outcome} → row7 work d ≡ false → Outcomes.Quiet d e sectors work o → o.drive.holding ≡ with_hold d.holding (hold_left work d e)
  unfolding posted_on octet2_cleared ended
  quiet_holds t (Outcomes.unsolicited (frame.control n) z) = refl
  quiet_holds t (Outcomes.unsolicited frame.position z) = refl
  quiet_holds t (Outcomes.unsolicited frame.target z) = refl
  quiet_holds t (Outcomes.asked (Outcomes.afresh c z) x) = asked_holds refl x
  quiet_holds t (Outcomes.asked (Outcomes.as_it_was z) x) = asked_holds refl x
  quiet_holds t (Outcomes.taken_last high) = refl
  quiet_holds t (Outcomes.taken high z) = refl
  quiet_holds t (Outcomes.ends high) = refl
  quiet_holds t (Outcomes.exchanged low x) = (exchange_leaves t x).holding
  quiet_holds t Outcomes.status_told = refl

  -- a word of data is not one of 01
  data_holds : is_data d.transfer.control ≡ true → d.holding ≡ with_hold d.holding (hold_left WordFromHost d e)
  unfolding pick
  data_holds high = rw (ne_eqb d.transfer.control load_drive_function (λ z. true≢false (sym high ∙ rw z)))

  work_holds : {work : Work} {r : Result} → row7 work d ≡ false → Outcomes.WorkDone d e sectors staging work r
      → r.outcome.drive.holding ≡ with_hold d.holding (hold_left work d e)
  unfolding ended
  work_holds t (Outcomes.quiet q) = quiet_holds t q
  work_holds t (Outcomes.miscompared high) = data_holds high
  work_holds t (Outcomes.completed high z) = data_holds high
  work_holds t (Outcomes.more high z) = data_holds high

pub holds_by_command : HoldsByCommand
holds_by_command m e work z a =
    accepted_by (λ answer next. next.drive.holding ≡ with_hold m.drive.holding (hold_left work m.drive e)) (Use work) m e z a
    (λ p. work_holds m.drive e m.sectors m.staging (record { sound = p.sound; room = p.room }) p.own.1.0 (Outcomes.work_done m.drive e m.sectors m.staging work))

-- ---- `commands_keep_out`

data_control_lem : (c : ℕ) → (is_write (control_of c) || is_read (control_of c)) ≡ true → is_data c ≡ true
data_control_lem c h = by_test (is_write (control_of c)) refl h
  where
    by_test : (write : Bool) → is_write (control_of c) ≡ write → (write || is_read (control_of c)) ≡ true → is_data c ≡ true
    by_test true w h = write_is_data c w
    by_test false w h = read_is_data c h

-- a control below 80 ends no transfer at once, and seeks no target
asked_in_place : {d : Drive} {e : Event} {o : Outcome} → is_data e.a0 ≡ false → Outcomes.Asked d e DataControl o → o.drive.place.sector ≡ d.place.sector
unfolding posted_on head_stepped
asked_in_place low (Outcomes.bad q b) = refl
asked_in_place low (Outcomes.stepped k) = refl
asked_in_place {e = e} low (Outcomes.nothing_to_come q w) = absurd (true≢false (sym (data_control_lem e.a0 w) ∙ low))
asked_in_place low (Outcomes.opens (Outcomes.in_place a) o z) = refl
asked_in_place {e = e} low (Outcomes.opens (Outcomes.at_target a y) o z) = absurd (true≢false (sym a ∙ codes_in_place e.a0 low o))

control_stays : {d : Drive} {e : Event} {sectors : List ℕ} {o : Outcome} → is_data e.a0 ≡ false → Outcomes.Quiet d e sectors DataControl o
    → o.drive.place.sector ≡ d.place.sector
unfolding posted_on octet2_cleared
control_stays low (Outcomes.unsolicited q z) = refl
control_stays low (Outcomes.asked (Outcomes.afresh c z) x) = asked_in_place low x
control_stays low (Outcomes.asked (Outcomes.as_it_was z) x) = asked_in_place low x
control_stays low (Outcomes.exchanged high x) = elim x [ ]

out : {m : Machine} {at : Drive} → at.place.sector ≡ m.drive.place.sector → KeptOut m (machine at m.sectors m.staging)
out s = record { sectors = refl; staging = refl; sector = s }

control_out : {m : Machine} {e : Event} {r : Result} → is_data e.a0 ≡ false → Outcomes.WorkDone m.drive e m.sectors m.staging DataControl r
    → KeptOut m (left r)
control_out low (Outcomes.quiet q) = out (control_stays low q)

abbrev Out : Machine → Event → Work → Type 0
Out m e work = AllPassed (Use work) m e → KeptOut m (left (done_by (Use work) m e))

module _ (m : Machine) (e : Event) (low : is_data m.drive.transfer.control ≡ false) where
  exchange_out : {work : Work} {o : Outcome} → AllPassed (Use work) m e → Outcomes.Exchanged m.drive e work o
      → KeptOut m (machine o.drive m.sectors m.staging)
  exchange_out p x = out (exchange_leaves m.drive e m.sectors m.staging (record { sound = p.sound; room = p.room }) p.own.1.0 x).sector

  work_out : {work : Work} → (work ≡ WordFromHost) ⊎ ((work ≡ TakeWord) ⊎ (work ≡ End)) → Out m e work
  unfolding word_from_host word_to_host ended_early pick
  work_out (inl q) = subst (Out m e) (sym q) (λ p. rw low (exchange_out p (Outcomes.parameter_sent_lem m.drive e m.sectors m.staging)))
  work_out (inr (inl q)) = subst (Out m e) (sym q) (λ p. rw low (exchange_out p (Outcomes.response_taken_lem m.drive e m.sectors m.staging)))
  work_out (inr (inr q)) = subst (Out m e) (sym q) (λ p. rw low (exchange_out p Outcomes.cut))

takeover_out : (m : Machine) (e : Event) → KeptOut m (left (done_by Select m e))
unfolding selected owner_noticed posted_on
takeover_out m e = out (either (λ (d : Drive). d.place.sector ≡ m.drive.place.sector) _ refl refl)

pub commands_keep_out : CommandsKeepOut
commands_keep_out =
    record {
      control = λ m e z low.
          by_kind (λ answer next. KeptOut m next) (Use DataControl) m e z (λ n. out refl)
          (λ p. control_out low (Outcomes.work_done m.drive e m.sectors m.staging DataControl));
      work = λ m e work z which low. by_kind (λ answer next. KeptOut m next) (Use work) m e z (λ n. out refl) (λ p. work_out m e low which p);
      takeover = λ m e z. by_kind (λ answer next. KeptOut m next) Select m e z (λ n. out refl) (λ p. takeover_out m e);
    }

-- ---- `command_cut_short`

-- so many words of a code passed
record Inside (d : Drive) (c k : ℕ) (m : Machine) : Type 0 where
  kept : Parameters
  drive : m.drive ≡ with_transfer d (transferring_with c k kept)

-- the drive is left as the cut alone leaves it
abbrev Alone : Event → Drive → Answer → Machine → Type 0
Alone cut d answer next = next.drive ≡ cut_alone (kind_of cut.kind) cut d

module _ (d : Drive) (c n : ℕ) (low : is_data c ≡ false) (words : words_to_come d.setup c ≡ n) where
  one_kept : (k : ℕ) (p : Parameters) (port word : ℕ) (sectors staging : List ℕ) → suc k < n
      → (word_from_host (with_transfer d (transferring_with c k p)) port word sectors staging).outcome.drive
      ≡ with_transfer d (transferring_with c (suc k) (kept_as p k word))
  unfolding word_from_host parameter_sent pick
  one_kept k p port word sectors staging more = rw (low, words, add-one k, ne_eqb (suc k) n (λ z. omega arith))

  one_given : (k : ℕ) (p : Parameters) (port : ℕ) (sectors : List ℕ) → suc k < n
      → (word_to_host (with_transfer d (transferring_with c k p)) port sectors).drive ≡ with_transfer d (transferring_with c (suc k) p)
  unfolding word_to_host response_taken pick
  one_given k p port sectors more = rw (low, words, add-one k, ne_eqb (suc k) n (λ z. omega arith))

  one_sent : (k : ℕ) (m : Machine) (e : Event) → suc k < n → Inside d c k m → is_refused (answer_to m e) ≡ false → Is (Use WordFromHost) e → Inside d c (suc k) (after m e)
  one_sent k m e more i a z =
      accepted_by (λ answer next. Inside d c (suc k) next) (Use WordFromHost) m e z a
      (λ p. record {
        kept = kept_as i.kept k (word_of e);
        drive = rw i.drive (one_kept k i.kept e.port (word_of e) m.sectors m.staging more);
      })

  one_taken : (k : ℕ) (m : Machine) (e : Event) → suc k < n → Inside d c k m → is_refused (answer_to m e) ≡ false → Is (Use TakeWord) e → Inside d c (suc k) (after m e)
  one_taken k m e more i a z =
      accepted_by (λ answer next. Inside d c (suc k) next) (Use TakeWord) m e z a
      (λ p. record { kept = i.kept; drive = rw i.drive (one_given k i.kept e.port m.sectors more) })

  one_word : {way : Work} → (way ≡ WordFromHost) ⊎ (way ≡ TakeWord) → (k : ℕ) (m : Machine) (e : Event) → suc k < n → Inside d c k m
      → is_refused (answer_to m e) ≡ false → Is (Use way) e → Inside d c (suc k) (after m e)
  one_word (inl q) k m e more i a z = one_sent k m e more i a (z ∙ ap Use q)
  one_word (inr q) k m e more i a z = one_taken k m e more i a (z ∙ ap Use q)

  -- what is open makes no difference to a takeover
  selected_anew : (t : Transfer) (port octet : ℕ) → selected (with_transfer d t) port octet ≡ selected d port octet
  unfolding selected owner_noticed posted_on pending_on pick
  selected_anew t port octet =
      cases (λ (at : Drive). with_transfer (with_holding at (granted_to port octet)) no_transfer ≡ selected d port octet) (is_owned_by_other d.holding port)
      (λ z. rw z) (λ z. rw z)

  cut_alone_lem : (cut : Event) (k : ℕ) (m : Machine) → Inside d c k m → Cuts m cut → Alone cut d (answer_to m cut) (after m cut)
  unfolding ended_early closed after_reset pick
  cut_alone_lem cut k m i (by_end z a) =
      accepted_by (Alone cut d) (Use End) m cut z a (λ p. rw (z, i.drive, low))
  cut_alone_lem cut k m i (by_takeover z a) =
      accepted_by (Alone cut d) Select m cut z a
      (λ p. rw (z, i.drive) (selected_anew (transferring_with c k i.kept) cut.port cut.a0))
  cut_alone_lem cut k m i (by_reset z a) =
      accepted_by (Alone cut d) Reset m cut z a (λ p. rw (z, i.drive))

-- a code opens where the drive stands
in_place_lem : {d at : Drive} {c : ℕ} → is_data c ≡ false → (takes_words (control_of c) || gives_words (control_of c)) ≡ true → Outcomes.Sought d c at → at ≡ d
in_place_lem low w (Outcomes.in_place a) = refl
in_place_lem {c = c} low w (Outcomes.at_target a z) = absurd (true≢false (sym a ∙ codes_in_place c low w))

as_opened_lem : {d : Drive} {e : Event} {at : Drive} → Outcomes.Heard d e DataControl at → at ≡ as_opened e d
unfolding pick
as_opened_lem (Outcomes.afresh (frame.control n) z) = rw n
as_opened_lem (Outcomes.as_it_was z) = rw z

pub command_cut_short : CommandCutShort
command_cut_short m opening cut n k place way words low o which w h =
    let first = (opened m opening o).0 in
    let d = as_opened opening m.drive in
    let here = in_place_lem low first.opens first.sought ∙ as_opened_lem first.heard in
    let come : words_to_come d.setup opening.a0 ≡ n = subst (λ (d : Drive). words_to_come d.setup opening.a0 ≡ n) here first.words in
    words_passed way (Inside d opening.a0) (λ short. Cuts short cut → Alone cut d (answer_to short cut) (after short cut)) n
    (cut_alone_lem d opening.a0 n low come cut) (one_word d opening.a0 n low come which) 0 (after m opening)
    (record { kept = no_parameters; drive = first.drive ∙ ap (λ (d : Drive). with_transfer d (transferring opening.a0 0)) here }) w (omega arith)
