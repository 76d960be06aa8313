-- `never_dead`: each event of the run passes all rows and does what its kind does; the words are staged one behind the other, and the last one commits.
-- Assumes nothing.
use Prim.Native.Nat.{ℕ, suc, ◌+◌, ◌-◌, ◌/◌, ◌%◌, ◌≤◌, ◌<◌}
use mathlib.Core.Path.{◌≡◌, refl, sym, ap, subst, ◌∙◌}
use mathlib.Core.Bool.{true, false}
use mathlib.Core.List.{List, [], ◌∷◌, ◌++◌, map, append_assoc}
use native.Mathlib.Nat.{div-add-mod'}
use native.Mathlib.Numerals.{add-one}
use native.Mathlib.Omega.{arith}
use borrow.Author.Tests.{leb-true, le-ltb, eq-eqb, ne_eqb}
use lib.Dec.{eqb}
use lib.ListN.{length, take, drop, set, replicate}
use lib.Seq.{sets, length-sets, paste, take_at, drop_at, length-take-le}
use Rattle.laws.specs.Pick.{pick}
use Rattle.laws.proofs.Pick.{either, cases}
use Rattle.laws.proofs.Rows.{Passed, none_given}
use Rattle.laws.proofs.Tests.{and_l, and_r}
use Rattle.laws.proofs.Lists.{stored}
use Rattle.laws.proofs.Windows.{paste_on}
use Rattle.status.specs.declared.drive_status.DriveStatus.TheVariants.{Normal}
use Rattle.parts.specs.Setup.{within_limits, sector_words, sector_start, sector_at, is_place}
use Rattle.parts.specs.Command.{code_of}
use Rattle.parts.specs.Control.{control_of, header_passes, data_words, words_to_come}
use Rattle.parts.specs.Holding.{nobody, is_busy, granted_to}
use Rattle.parts.specs.Pending.{reset_complete, pending_of, nothing_pending, octet0}
use Rattle.parts.specs.Kind.{kind_of}
use Rattle.parts.specs.declared.kind.Kind.{Kind}
use Rattle.parts.specs.declared.kind.Kind.TheVariants.{Select, Use, Reset}
use Rattle.parts.specs.declared.kind.Work.{Work}
use Rattle.parts.specs.declared.kind.Work.TheVariants.{DataControl, WordFromHost, Position, ReadStatus}
use Rattle.parts.specs.Tests.{transferring, is_misaddressed, changes_mode}
use Rattle.parts.specs.declared.setup.Setup.{Setup}
use Rattle.parts.specs.declared.setup.Place.{Place}
use Rattle.parts.specs.declared.event.Event.{Event}
use Rattle.parts.specs.declared.pending.Pending.{Pending}
use Rattle.drive.specs.State.{with_place, with_transfer, pending_on, posted_on, told, Result, result}
use Rattle.drive.specs.Drive.{owner_noticed, selected, after_reset, ended}
use Rattle.drive.specs.Request.{octet2_cleared, opened, opening, data_control, positioned, status_read}
use Rattle.drive.specs.Refusal.{row8, is_one_open, row7, own_rows}
use Rattle.drive.specs.Transfer.{miscompares, committed, staged, word_staged}
use Rattle.drive.specs.Command.{word_from_host}
use Rattle.drive.specs.Event.{handled}
use Rattle.drive.specs.Able.{Room, unless_own_row_in}
use Rattle.drive.specs.Run.{Machine, machine, answer_to, after, answers, final}
use Rattle.drive.specs.StaysSound.{IsSound}
use Rattle.drive.specs.Calls.{Ran}
use Rattle.drive.specs.NeverDead.{sent, word_sent, position_sent, selection, whole_sector, whole_sector_written, its_answers, Possible, NeverDead}
use Rattle.drive.specs.declared.drive.Drive.{Drive}
use Rattle.drive.specs.declared.answer.Answer.{Answer}
use Rattle.drive.specs.declared.answer.Outcome.{Outcome}
use Rattle.drive.specs.declared.answer.Answer.TheVariants.{Done, Status, Opened, Response}
use Rattle.parts.proofs.Bounds.{limits}
use Rattle.drive.proofs.Sound.{sound, unsound, room}
use Rattle.drive.proofs.SoundPlace.{place_kept}
use Rattle.drive.proofs.Cleared.{nothing_to_clear}
use Rattle.drive.proofs.Step.{handled_by_kind}
use Rattle.drive.proofs.Laws.{done_by, left}
use Rattle.drive.proofs.StaysSound.{sound_after}

-- ---- an event that passes all rows does what its kind does

pub record Does (m : Machine) (e : Event) (r : Result) : Type 0 where
  pub answer : answer_to m e ≡ r.outcome.answer
  pub next : after m e ≡ left r
  pub sound : IsSound (left r)

does : {m : Machine} {e : Event} {r : Result} → IsSound m → handled m.drive e m.sectors m.staging ≡ r → Does m e r
unfolding answer_to after
does {m} {e} s h = record { answer = ap (λ (x : Result). x.outcome.answer) h; next = ap left h; sound = subst IsSound (ap left h) (sound_after m e s) }

accepted_does : (k : Kind) {m : Machine} {e : Event} {r : Result} → IsSound m → e.port ≤ 1 → kind_of e.kind ≡ k → Passed (own_rows k m.drive e)
    → done_by k m e ≡ r → Does m e r
unfolding unless_own_row_in
accepted_does k {m} {e} s real z p d =
    does s (handled_by_kind m.drive e m.sectors m.staging k s (le-ltb 1 e.port real) z ∙ rw (none_given (own_rows k m.drive e) p) d)

-- and the run goes on from there
pub follows : {m : Machine} {e : Event} {r : Result} {events : List Event} {answered : List Answer} {end : Machine} → Does m e r → Ran (left r) events answered end
    → Ran m (e ∷ events) (r.outcome.answer ∷ answered) end
unfolding answers final
follows d ran = record { answered = rw (d.answer, d.next, ran.answered); ended = rw d.next ran.ended }

pub nothing_follows : {m : Machine} → Ran m [] [] m
unfolding answers final
nothing_follows = record { answered = refl; ended = refl }

-- kinds 3 to 9: tests 8, 2 and 7
pub work_does : (work : Work) {m : Machine} {e : Event} {r : Result} → IsSound m → e.port ≤ 1 → kind_of e.kind ≡ Use work → row8 (Use work) e ≡ false
    → m.drive.holding.selected ≡ e.port → row7 work m.drive ≡ false → done_by (Use work) m e ≡ r → Does m e r
work_does work {m} {e} s real z formed mine timely d =
    accepted_does (Use work) s real z (formed, (rw (eq-eqb m.drive.holding.selected e.port mine), (timely, tt))) d

-- what leaves the lent words, and a machine with another drive
abbrev pub quietly : Machine → Outcome → Result
quietly m o = result o m.sectors m.staging

abbrev pub with_drive : Machine → Drive → Machine
with_drive m d = machine d m.sectors m.staging

-- ---- Reset, Select, Read status

-- the octet has our address and nothing else
ours : (s : Setup) → within_limits s ≡ true → is_misaddressed (selection s.address) s.address ≡ false
unfolding within_limits
ours s h =
    let small = leb-true s.address 7 (search (and_l, and_r) depth 9) in
    rw (ne_eqb (selection s.address / 128 % 2) 1 (λ e. omega arith), eq-eqb (selection s.address / 16 % 8) s.address (omega arith))

no_mode : (address : ℕ) → changes_mode (selection address) ≡ false
no_mode address = rw (ne_eqb (selection address / 8 % 2) 1 (λ e. omega arith), ne_eqb (selection address / 4 % 2) 1 (λ e. omega arith))

-- the drive after Select, after Read status, and at its place
granted : Machine → ℕ → Drive
granted m port = selected (after_reset m.drive) port (selection m.drive.setup.address)

ready : Machine → ℕ → Drive
ready m port = posted_on (granted m port) port nothing_pending

there : Machine → ℕ → Place → Drive
there m port p = with_place (ready m port) p

-- what the data control and Position ask of the drive
pub record Ready (d : Drive) (port : ℕ) : Type 0 where
  pub selected : d.holding.selected ≡ port
  pub idle : is_one_open d ≡ false
  pub quiet : (pending_on d port).octet1 ≡ 0

module _ (m : Machine) (port : ℕ) (real : port ≤ 1) (s : IsSound m) where
  reset_does : Does m (sent port 10 0 0) (quietly m (told Done (after_reset m.drive)))
  unfolding kind_of pick
  reset_does = accepted_does Reset s real refl (refl, tt) refl

  select_does : Does (with_drive m (after_reset m.drive)) (sent port 1 (selection m.drive.setup.address) 0) (quietly m (told Done (granted m port)))
  unfolding granted kind_of pick after_reset is_busy
  select_does =
      let unselected = ne_eqb nobody port (λ e. omega arith) in
      let addressed = ours m.drive.setup (sound m.drive s.sound).limits in
      accepted_does Select reset_does.sound real refl (refl, (unselected, (addressed, (no_mode m.drive.setup.address, (refl, tt))))) refl

  reset_pending : pending_on (granted m port) port ≡ pending_of reset_complete 0
  unfolding granted selected owner_noticed after_reset pending_on pick
  reset_pending = either (λ (q : Pending). q ≡ pending_of reset_complete 0) (eqb port 0) refl refl

  status_told_lem : status_read (granted m port) port ≡ told (Response 0x40 reset_complete 0) (ready m port)
  unfolding ready status_read octet0 pick
  status_told_lem = rw reset_pending

  status_does : Does (with_drive m (granted m port)) (sent port 9 0 0) (quietly m (told (Response 0x40 reset_complete 0) (ready m port)))
  unfolding granted selected granted_to kind_of control_of code_of pick
  status_does = work_does ReadStatus select_does.sound real refl refl refl refl (ap (quietly m) status_told_lem)

  nothing_pending_lem : pending_on (ready m port) port ≡ nothing_pending
  unfolding ready posted_on pending_on pick
  nothing_pending_lem = cases (λ (q : Pending). q ≡ nothing_pending) (eqb port 0) (λ z. rw z) (λ z. rw z)

  is_ready : (p : Place) → Ready (there m port p) port
  unfolding there ready granted selected granted_to posted_on pending_on control_of code_of pick
  is_ready p = record { selected = refl; idle = refl; quiet = ap (λ (q : Pending). q.octet1) nothing_pending_lem }

  already_clear : (p : Place) → octet2_cleared (there m port p) port ≡ there m port p
  unfolding there ready posted_on pending_on
  already_clear p = nothing_to_clear (there m port p) port (ap (λ (q : Pending). q.octet2) nothing_pending_lem)

-- ---- Position and the data control

module _ {m : Machine} {port : ℕ} (real : port ≤ 1) (s : IsSound m) (r : Ready m.drive port) where
  -- the drive that they find
  abbrev heard : Drive
  heard = octet2_cleared m.drive port

  position_told_lem : (p : Place) → is_place m.drive.setup p ≡ true → positioned m.drive port p ≡ told (Status Normal) (with_place heard p)
  unfolding positioned octet2_cleared posted_on pick
  position_told_lem p h = rw (eq-eqb (pending_on m.drive port).octet1 0 r.quiet, h)

  pub position_does : (p : Place) → is_place m.drive.setup p ≡ true → Does m (position_sent port p) (quietly m (told (Status Normal) (with_place heard p)))
  unfolding kind_of pick
  position_does p h =
      work_does Position s real refl refl r.selected r.idle (rw (div-add-mod' p.cylinder 256) (ap (quietly m) (position_told_lem p h)))

  opens : Outcome
  opens = told (Opened (sector_words m.drive.setup) m.drive.place) (with_transfer heard (transferring whole_sector 0))

  control_told : data_control m.drive port whole_sector ≡ opens
  unfolding opens data_control opening opened control_of data_words words_to_come header_passes octet2_cleared posted_on pick
  control_told =
      let l = limits m.drive.setup (sound m.drive s.sound).limits in
      rw (eq-eqb (pending_on m.drive port).octet1 0 r.quiet, ne_eqb (sector_words m.drive.setup) 0 (λ e. omega arith))

  control_does : Does m (sent port 3 whole_sector 0) (quietly m opens)
  unfolding kind_of pick
  control_does = work_does DataControl s real refl refl r.selected r.idle (ap (quietly m) control_told)

-- ---- the words

-- the write with so many words moved, and with all of them
writing : Drive → List ℕ → ℕ → List ℕ → Machine
writing d sectors moved staging = machine (with_transfer d (transferring whole_sector moved)) sectors staging

complete : Drive → List ℕ → List ℕ → Machine
complete d sectors staging = machine (ended d) (committed d.setup whole_sector (sector_start d.setup d.place) sectors staging) staging

module _ (d : Drive) (port : ℕ) (sectors : List ℕ) (real : port ≤ 1) (mine : d.holding.selected ≡ port) where
  one_more : (moved : ℕ) (staging : List ℕ) (word : ℕ) → moved + 1 < sector_words d.setup
      → word_staged (with_transfer d (transferring whole_sector moved)) word sectors staging
      ≡ result (told Done (with_transfer d (transferring whole_sector (suc moved)))) sectors (set staging moved word)
  unfolding word_staged staged miscompares control_of data_words words_to_come header_passes pick
  one_more moved staging word h = rw (ne_eqb (moved + 1) (sector_words d.setup) (λ e. omega arith), add-one moved)

  the_last : (moved : ℕ) (staging : List ℕ) (word : ℕ) → moved + 1 ≡ sector_words d.setup
      → word_staged (with_transfer d (transferring whole_sector moved)) word sectors staging
      ≡ result (told (Status Normal) (ended d)) (complete d sectors (set staging moved word)).sectors (set staging moved word)
  unfolding complete ended word_staged staged miscompares control_of data_words words_to_come header_passes pick
  the_last moved staging word h = rw (eq-eqb (moved + 1) (sector_words d.setup) h)

  word_does : (moved : ℕ) (staging : List ℕ) (word : ℕ) {r : Result} → IsSound (writing d sectors moved staging)
      → word_staged (with_transfer d (transferring whole_sector moved)) word sectors staging ≡ r → Does (writing d sectors moved staging) (word_sent port word) r
  unfolding writing kind_of control_of word_from_host pick
  word_does moved staging word s e =
      work_does WordFromHost s real refl refl mine refl (rw (div-add-mod' word 256) e)

  words_follow : (moved word : ℕ) (later staging : List ℕ) → moved + 1 + length later ≡ sector_words d.setup → IsSound (writing d sectors moved staging)
      → Ran (writing d sectors moved staging) (map (word_sent port) (word ∷ later)) (replicate (length later) Done ++ (Status Normal ∷ []))
      (complete d sectors (sets staging moved (word ∷ later)))
  unfolding writing complete answers final
  words_follow moved word [] staging h s =
      follows (word_does moved staging word s (the_last moved staging word (omega arith))) nothing_follows
  words_follow moved word (next ∷ later) staging h s =
      let now = word_does moved staging word s (one_more moved staging word (omega arith)) in
      follows now (words_follow (suc moved) next later (set staging moved word) (omega arith) now.sound)

-- ---- the commit

-- header, field 1 and field 2, one behind the other, are the whole sector
all_committed : (s : Setup) (start : ℕ) (sectors staging : List ℕ) → Room s start sectors staging
    → committed s whole_sector start sectors staging ≡ paste sectors start staging (sector_words s)
unfolding committed pick
all_committed s start sectors staging r =
    let sum : start + (s.header + s.field1) ≡ start + s.header + s.field1 = omega arith in
    sym (paste_on sectors start staging (s.header + s.field1) s.field2 (omega arith) (omega arith)
    ∙ rw (paste_on sectors start staging s.header s.field1 (omega arith) (omega arith), sum))

pasted_there : (d : List ℕ) (at : ℕ) (s : List ℕ) (n : ℕ) → at ≤ length d → n ≤ length s → take n (drop at (paste d at s n)) ≡ take n s
pasted_there d at s n hd hs =
    rw (append_assoc (take at d) (take n s) (drop (at + n) d), drop_at (take at d) (take n s ++ drop (at + n) d) at (length-take-le at d hd))
    (take_at (take n s) (drop (at + n) d) n (length-take-le n s hs))

words_there : (s : Setup) (p : Place) (sectors staging words : List ℕ) → Room s (sector_start s p) sectors staging → length words ≡ sector_words s
    → sector_at s p (committed s whole_sector (sector_start s p) sectors (sets staging 0 words)) ≡ words
words_there s p sectors staging words r h =
    let size = length-sets staging 0 words in
    rw (all_committed s (sector_start s p) sectors (sets staging 0 words) (record { sector = r.sector; stage = omega arith }))
    (pasted_there sectors (sector_start s p) (sets staging 0 words) (sector_words s) (omega arith) (omega arith)
    ∙ rw (stored staging words (omega arith)) (take_at words (drop (length words) staging) (sector_words s) h))

-- ---- the run

whole_run : (m : Machine) (port : ℕ) (p : Place) (words : List ℕ) → Possible m port p words
    → Ran m (whole_sector_written port m.drive.setup.address p words) (its_answers m.drive.setup p)
    (complete (there m port p) m.sectors (sets m.staging 0 words))
unfolding whole_sector_written its_answers opens writing there ready granted selected owner_noticed after_reset posted_on pick
whole_run m port p [] q = let l = limits m.drive.setup (sound m.drive q.sound.sound).limits in absurd (omega (arith, q.whole))
whole_run m port p (word ∷ later) q =
    let status = status_does m port q.real q.sound in
    let r = is_ready m port q.real q.sound in
    let clear = already_clear m port q.real q.sound in
    let position : Does (with_drive m (ready m port)) (position_sent port p) (quietly m (told (Status Normal) (there m port p))) =
    rw (clear (ready m port).place) at (position_does q.real status.sound (r (ready m port).place) p q.inside) in
    let control : Does (with_drive m (there m port p)) (sent port 3 whole_sector 0)
    (quietly m (told (Opened (sector_words m.drive.setup) p) (with_transfer (there m port p) (transferring whole_sector 0)))) =
    rw (clear p) at (control_does q.real position.sound (r p)) in
    let count : sector_words m.drive.setup - 1 ≡ length later = omega (arith, q.whole) in
    rw count
    (follows (reset_does m port q.real q.sound)
    (follows (select_does m port q.real q.sound)
    (follows status
    (follows position
    (follows control
    (words_follow (there m port p) port m.sectors q.real (r p).selected 0 word later m.staging (omega (arith, q.whole)) control.sound))))))

pub never_dead : NeverDead
unfolding complete there ready granted selected owner_noticed after_reset posted_on pick
never_dead =
    record {
      answered = λ m port p words q. sym (whole_run m port p words q).answered;
      written = λ m port p words q.
          rw (← (whole_run m port p words q).ended)
          (words_there m.drive.setup p m.sectors m.staging words
          (room (with_place m.drive p) m.sectors m.staging (unsound _ (place_kept (sound m.drive q.sound.sound) q.inside)) q.sound.room)
          q.whole);
    }
