-- Of a run from power-up: what the journal says of the sectors, that its writes are whole, and that openings and words taken follow from what came before.
-- Assumes nothing.
use Prim.Native.Nat.{ℕ, ◌+◌, ◌<◌}
use mathlib.Core.Path.{◌≡◌, refl, sym, ap, subst, ◌∙◌}
use mathlib.Core.Bool.{true, false, not}
use mathlib.Core.List.{List}
use mathlib.Core.Option.{some}
use native.Mathlib.Omega.{arith}
use borrow.Author.Tests.{not-false, ltb-true, ltb-false}
use lib.Dec.{ltb}
use lib.ListN.{length, get_or}
use Rattle.laws.specs.Pick.{pick}
use Rattle.laws.proofs.Pick.{cases}
use Rattle.laws.proofs.Differ.{absent}
use Rattle.parts.specs.Setup.{is_place}
use Rattle.parts.specs.Control.{control_of, is_read, is_data, header_passes, names_field1, part, data_words, words_to_come}
use Rattle.parts.specs.declared.control.Control.TheVariants.{Response}
use Rattle.parts.proofs.ByBits.{reads_give, low_responds}
use Rattle.parts.proofs.Bounds.{data_words_lem}
use Rattle.parts.specs.declared.kind.Kind.{Kind}
use Rattle.parts.specs.declared.kind.Kind.TheVariants.{Select, Deselect, Use, Reset, Unknown}
use Rattle.parts.specs.declared.kind.Work.{Work}
use Rattle.parts.specs.Tests.{is_giving}
use Rattle.parts.specs.declared.setup.Setup.{Setup}
use Rattle.parts.specs.declared.setup.Place.{Place}
use Rattle.parts.specs.declared.event.Event.{Event}
use Rattle.drive.specs.Answer.{paper}
use Rattle.drive.specs.Drive.{at_its_target}
use Rattle.drive.specs.Power.{at_rest}
use Rattle.drive.specs.Refusal.{row7}
use Rattle.drive.specs.Able.{Passable, ReadsAt}
use Rattle.drive.specs.Run.{Machine, machine, answer_to, answers, final}
use Rattle.drive.specs.Journal.{journal, last_write, AllWhole}
use Rattle.drive.specs.Standing.{Standing, OpeningTold, OpeningFollows}
use Rattle.drive.specs.State.{posted_on}
use Rattle.drive.specs.Request.{octet2_cleared}
use Rattle.drive.specs.Command.{words_told}
use Rattle.drive.specs.declared.answer.Answer.TheVariants.{Opened}
use Rattle.drive.specs.Reading.{offset_of, next_address, WordTold, of_read, of_response, WordFollows}
use Rattle.drive.specs.declared.drive.Drive.{Drive}
use Rattle.drive.specs.declared.answer.Outcome.{Outcome}
use Rattle.drive.proofs.Sound.{sound, room}
use Rattle.drive.proofs.SoundPlace.{at_target_kept}
use Rattle.drive.proofs.Own.{able_to_read}
use Rattle.drive.proofs.Reading.{at_header, at_field1, at_field2, read_in_place}
use Rattle.drive.proofs.Laws.{by_cases, done_by, AllPassed}
use Rattle.drive.proofs.StaysSound.{cleared_passable}
use Rattle.drive.proofs.Along.{same_size_along}
use Rattle.drive.proofs.Journal.{none_going, no_write, as_journalled, whole_from}
use Rattle.drive.proofs.Standing.{standing_of, sought_there, sought_setup, stands_there}
use Rattle.drive.proofs.Outcomes

-- ---- an opening

pub sought_inside : {d at : Drive} {c : ℕ} {sectors staging : List ℕ} → Passable d sectors staging → Outcomes.Sought d c at → is_place d.setup at.place ≡ true
unfolding at_its_target
sought_inside {d} p (Outcomes.in_place a) = (sound d p.sound).place
sought_inside {d} p (Outcomes.at_target a z) = (at_target_kept (sound d p.sound) z).place

-- what an opening tells, by the drive on which it is sought
opening_sought : {d at : Drive} {c : ℕ} {sectors staging : List ℕ} → Passable d sectors staging → Outcomes.Sought d c at
    → (place : Place) → (paper (Opened (words_to_come at.setup c) at.place)).place ≡ some place
    → OpeningTold d.setup c (standing_of d) (paper (Opened (words_to_come at.setup c) at.place)) place
unfolding paper
opening_sought {d} {at} {c} p q place h =
    let there : at.place ≡ place = cc in
    record {
      follows = sym there ∙ ap (λ (w : Standing). w.place) (sym (sought_there q));
      inside = subst (λ (x : Place). is_place d.setup x ≡ true) there (sought_inside p q);
      count = ap (λ (s : Setup). some (words_to_come s c)) (sought_setup q);
    }

-- what an outcome tells of an opening, where the drive stood
opening_told : {d : Drive} {e : Event} {sectors staging : List ℕ} {work : Work} {o : Outcome} → Passable d sectors staging → Outcomes.Told d e sectors work o
    → (place : Place) → (paper o.answer).place ≡ some place → OpeningTold d.setup e.a0 (standing_of d) (paper o.answer) place
unfolding paper octet2_cleared posted_on
opening_told {e = e} p (Outcomes.an_opening (Outcomes.afresh c z) q w) place h = opening_sought (cleared_passable e.port p) q place h
opening_told p (Outcomes.an_opening (Outcomes.as_it_was z) q w) place h = opening_sought p q place h
opening_told p (Outcomes.a_word high w n r) place h = absent n h
opening_told p (Outcomes.a_response_word low w n r) place h = absent n h
opening_told p Outcomes.a_response place h = absent refl h
opening_told p (Outcomes.nothing w n r) place h = absent n h

opening_by : (k : Kind) (m : Machine) (e : Event) → AllPassed k m e → (place : Place) → (paper (done_by k m e).outcome.answer).place ≡ some place
    → OpeningTold m.drive.setup e.a0 (standing_of m.drive) (paper (done_by k m e).outcome.answer) place
unfolding paper
opening_by Select m e p place h = absent refl h
opening_by Deselect m e p place h = absent refl h
opening_by Reset m e p place h = absent refl h
opening_by Unknown m e p place h = absent refl h
opening_by (Use work) m e p place h =
    opening_told (record { sound = p.sound; room = p.room }) (Outcomes.work_told (Outcomes.work_done m.drive e m.sectors m.staging work)) place h

opening_follows : (m : Machine) (e : Event) (place : Place) → (paper (answer_to m e)).place ≡ some place
    → OpeningTold m.drive.setup e.a0 (standing_of m.drive) (paper (answer_to m e)) place
unfolding paper
opening_follows m e place =
    by_cases (λ answer next. (paper answer).place ≡ some place → OpeningTold m.drive.setup e.a0 (standing_of m.drive) (paper answer) place) m e
    (λ n z h. absent refl h) (λ k z p h. opening_by k m e p place h)

-- ---- a word that is taken

word_stands : (s : Setup) (c k : ℕ) → k < data_words s c → ReadsAt s c k (offset_of s c k)
unfolding offset_of
word_stands s c k h =
    let header = part (header_passes c) s.header in
    let field1 = part (names_field1 c) s.field1 in
    cases (ReadsAt s c k) (ltb k header) (λ t. at_header s c k (ltb-true k header t))
    (λ t. cases (ReadsAt s c k) (ltb k (header + field1))
    (λ u. at_field1 s c k (ltb-false k header t) (ltb-true k (header + field1) u))
    (λ u. at_field2 s c k (ltb-false k (header + field1) u) h))

-- the word that a Take answers, as the drive has it: of the sector or of a response
data Taken (m : Machine) (port word : ℕ) : Type 0 where
  of_sector : is_read (control_of m.drive.transfer.control) ≡ true
      → word ≡ get_or m.sectors (next_address m.drive.setup (standing_of m.drive)) 0
      → next_address m.drive.setup (standing_of m.drive) < length m.sectors → Taken m port word
  of_standing : control_of m.drive.transfer.control ≡ Response → word ≡ Outcomes.response_at m.drive port → Taken m port word

word_at_lem : {d : Drive} {sectors staging : List ℕ} (port word : ℕ) → Passable d sectors staging → is_data d.transfer.control ≡ true
    → not (is_giving d.transfer) ≡ false → word ≡ Outcomes.word_at d sectors → Taken (machine d sectors staging) port word
word_at_lem {d} {sectors} {staging} port word p high t e =
    let c = d.transfer.control in
    let giving = not-false (is_giving d.transfer) t in
    let r = room d sectors staging p.sound p.room in
    let fewer : d.transfer.moved < data_words d.setup c = rw (data_words_lem d.setup c high) at (able_to_read p giving).moved in
    let at = word_stands d.setup c d.transfer.moved fewer in
    of_sector (reads_give c ∙ rw (giving, high)) (e ∙ read_in_place d.setup d.place c d.transfer.moved _ sectors r.sector at)
    (omega (arith, at.inside, r.sector))

word_told_lem : {d : Drive} {e : Event} {sectors staging : List ℕ} {work : Work} {o : Outcome} → Passable d sectors staging → row7 work d ≡ false
    → Outcomes.Told d e sectors work o → (word : ℕ) → (paper o.answer).word ≡ some word → Taken (machine d sectors staging) e.port word
unfolding paper
word_told_lem p t (Outcomes.an_opening a q w) word h = absent refl h
word_told_lem {d} {e} {sectors} p t (Outcomes.a_word high w n r) word h = let it : word ≡ Outcomes.word_at d sectors = cc in word_at_lem e.port word p high t it
word_told_lem {d} {e} p t (Outcomes.a_response_word low w n r) word h =
    let it : word ≡ Outcomes.response_at d e.port = cc in
    of_standing (low_responds d.transfer.control low (not-false (is_giving d.transfer) t)) it
word_told_lem p t Outcomes.a_response word h = absent refl h
word_told_lem p t (Outcomes.nothing w n r) word h = absent w h

word_by : (k : Kind) (m : Machine) (e : Event) → AllPassed k m e → (word : ℕ) → (paper (done_by k m e).outcome.answer).word ≡ some word → Taken m e.port word
unfolding paper
word_by Select m e p word h = absent refl h
word_by Deselect m e p word h = absent refl h
word_by Reset m e p word h = absent refl h
word_by Unknown m e p word h = absent refl h
word_by (Use work) m e p word h =
    word_told_lem (record { sound = p.sound; room = p.room }) p.own.1.0
    (Outcomes.work_told (Outcomes.work_done m.drive e m.sectors m.staging work)) word h

word_taken_lem : (m : Machine) (e : Event) (word : ℕ) → (paper (answer_to m e)).word ≡ some word → Taken m e.port word
unfolding paper
word_taken_lem m e word = by_cases (λ answer next. (paper answer).word ≡ some word → Taken m e.port word) m e (λ n z h. absent refl h) (λ k z p h. word_by k m e p word h)

-- ---- from power-up

module _ (s : Setup) (sectors staging : List ℕ) where
  -- every word, also behind the end, where there is none
  pub every_word : (events : List Event) (address : ℕ) → let start = machine (at_rest s) sectors staging in
      get_or (final start events).sectors address 0 ≡ last_write s (journal events (answers start events)) address (get_or sectors address 0)
  every_word events address = rw (← (none_going (at_rest s) staging no_write)) (as_journalled (machine (at_rest s) sectors staging) events address)

  pub completed_writes_are_whole : (events : List Event) → AllWhole s (journal events (answers (machine (at_rest s) sectors staging) events))
  completed_writes_are_whole events = rw (← (none_going (at_rest s) staging no_write)) (whole_from (machine (at_rest s) sectors staging) events)

  pub places_are_not_made_up : (before : List Event) (e : Event) → let start = machine (at_rest s) sectors staging in
      OpeningFollows s before (answers start before) e (answer_to (final start before) e)
  places_are_not_made_up before e place h =
      let start = machine (at_rest s) sectors staging in
      let m = final start before in
      subst (λ (w : Standing). OpeningTold s e.a0 w (paper (answer_to m e)) place) (sym (stands_there start before))
      (subst (λ (x : Setup). OpeningTold x e.a0 (standing_of m.drive) (paper (answer_to m e)) place) (same_size_along start before).setup (opening_follows m e place h))

  -- 46 and 47 do not look at what is pending
  told_of_standing : (before : List Event) (e : Event) (word : ℕ) → let start = machine (at_rest s) sectors staging in
      Taken (final start before) e.port word → WordTold start (journal before (answers start before)) (standing_of (final start before).drive) word
  unfolding words_told pick
  told_of_standing before e word (of_sector r held there) =
      let start = machine (at_rest s) sectors staging in
      let m = final start before in
      let w = standing_of m.drive in
      let same = same_size_along start before in
      of_read (record {
        reading = r;
        there = subst (λ (x : Setup). next_address x w < length sectors) same.setup (subst (λ (n : ℕ). next_address m.drive.setup w < n) same.sectors there);
        written = held ∙ ap (λ (x : Setup). get_or m.sectors (next_address x w) 0) same.setup ∙ every_word before (next_address s w);
      })
  told_of_standing before e word (of_standing r it) = of_response (record { responding = r; told = λ z. it ∙ rw z })

  pub hosts_read_what_was_written : (before : List Event) (e : Event) → let start = machine (at_rest s) sectors staging in
      WordFollows start before (answers start before) e (answer_to (final start before) e)
  hosts_read_what_was_written before e word h =
      let start = machine (at_rest s) sectors staging in
      subst (λ (w : Standing). WordTold start (journal before (answers start before)) w word) (sym (stands_there start before))
      (told_of_standing before e word (word_taken_lem (final start before) e word h))
