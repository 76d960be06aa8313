-- The runs of wrong drives are refused, by computation: each differs from what the part says in one number, or has a host's event inside the other's
-- session. The idle drive is not.
-- Assumes nothing.
use Prim.Native.Nat.{ℕ, ◌≤◌}
use mathlib.Core.Path.{◌≡◌, refl, sym, ap, ◌∙◌}
use mathlib.Core.Bool.{Bool, true, false, true≢false, false≢true, ◌&&◌}
use mathlib.Core.List.{List, [], ◌∷◌, ◌++◌, map, append-nil}
use native.Mathlib.Omega.{arith}
use borrow.Author.Tests.{eq-eqb}
use lib.Dec.{eqb}
use lib.ListN.{get_or}
use Rattle.laws.specs.Pick.{pick}
use Rattle.laws.proofs.Differ.{told_apart, absent}
use Rattle.refusals.specs.declared.refusal.Refusal.TheVariants.{Busy}
use Rattle.parts.specs.Control.{control_of, is_read}
use Rattle.parts.specs.Holding.{nobody}
use Rattle.parts.specs.Kind.{kind_of}
use Rattle.parts.specs.declared.kind.Kind.{Kind}
use Rattle.parts.specs.declared.kind.Kind.TheVariants.{Select, Deselect, Use, Reset, Unknown}
use Rattle.parts.specs.declared.control.Control.TheVariants.{Read}
use Rattle.parts.specs.declared.setup.Place.{Place}
use Rattle.parts.specs.declared.event.Event.{Event}
use Rattle.drive.specs.State.{at_place}
use Rattle.drive.specs.Answer.{paper, refusal_in}
use Rattle.drive.specs.AnswerWords.{or_ffff}
use Rattle.drive.specs.Run.{Machine, answers}
use Rattle.drive.specs.Accepted.{accepted}
use Rattle.drive.specs.Along.{Saying, HoldsBehind}
use Rattle.drive.specs.Journal.{page_after, journal_from, journal}
use Rattle.drive.specs.StaysSound.{Never11Or10}
use Rattle.drive.specs.Demand3.{MeetsDemand3}
use Rattle.drive.specs.Sessions.{Works, Sessions}
use Rattle.drive.specs.Sessions as sessions
use Rattle.drive.specs.Standing.{Standing}
use Rattle.drive.specs.Reading.{next_address, WordTold, of_read, of_response}
use Rattle.drive.specs.NeverDead.{word_sent, whole_sector_written, its_answers, Possible}
use Rattle.drive.specs.WrongRuns.{power_up, WrongRuns}
use Rattle.drive.specs.declared.answer.Answer.{Answer}
use Rattle.drive.specs.declared.answer.Answer.TheVariants.{Refused, Done}
use Rattle.drive.proofs.StaysSound.{stays_sound}
use Rattle.drive.proofs.Demand3.{demand_3}
use Rattle.drive.proofs.Calls.{demand_3_of_calls}
use Rattle.drive.proofs.NeverDead.{never_dead}
use Rattle.drive.proofs.Computing.{computing}

-- ---- no event of one host stands inside the other's session

-- the event is the selected port's own, or one that any port may send
abbrev is_own : Kind → ℕ → ℕ → Bool
is_own Select port sender = true
is_own Deselect port sender = eqb sender port
is_own (Use work) port sender = eqb sender port
is_own Reset port sender = true
is_own Unknown port sender = false

abbrev selected_after : Kind → ℕ → ℕ → ℕ
selected_after Select port sender = sender
selected_after Deselect port sender = nobody
selected_after (Use work) port sender = port
selected_after Reset port sender = nobody
selected_after Unknown port sender = port

abbrev all_own : ℕ → List Event → Bool
all_own port [] = true
all_own port (e ∷ events) = is_own (kind_of e.kind) port e.port && all_own (selected_after (kind_of e.kind) port e.port) events

work_own : {port : ℕ} {work : List Event} (rest : List Event) → Works port work → all_own port rest ≡ true → all_own port (work ++ rest) ≡ true
work_own rest sessions.none h = h
work_own {port} rest (sessions.one {e} w z p more) h = rw (z, eq-eqb e.port port p) (work_own rest more h)

sessions_own : {events : List Event} → Sessions events → (port : ℕ) → all_own port events ≡ true
sessions_own sessions.nothing port = refl
sessions_own (sessions.reset z later) port = rw z (sessions_own later nobody)
sessions_own (sessions.deselected {selection} deselection {later} z work y p more) port =
    rw z (work_own (deselection ∷ later) work (rw (y, eq-eqb deselection.port selection.port p) (sessions_own more nobody)))
sessions_own (sessions.taken_over {selection} {takeover = takeover} {later} z work y other more) port =
    rw z (work_own (takeover ∷ later) work (sessions_own more selection.port))
sessions_own (sessions.cut_by_reset {selection} {cut = cut} {later} z work y more) port =
    rw z (work_own (cut ∷ later) work (sessions_own more selection.port))
sessions_own (sessions.still_open {selection} {work} z works) port = rw (z, ← (append-nil work)) (work_own [] works refl)

-- ---- an idle drive

abbrev refused : List Event → List Answer
refused events = map (λ e. Refused Busy) events

none_accepted : {A : Type 0} (list : List A) (events : List Event) → accepted list (refused events) ≡ []
unfolding accepted pick
none_accepted [] events = refl
none_accepted (x ∷ list) [] = refl
none_accepted (x ∷ list) (e ∷ events) = none_accepted list events

none_journalled : (events : List Event) → journal events (refused events) ≡ []
unfolding journal_from page_after pick
none_journalled [] = refl
none_journalled (e ∷ events) = none_journalled events

journal_behind : (events stretch : List Event) (told : List Answer) → journal (events ++ stretch) (refused events ++ told) ≡ journal stretch told
unfolding journal_from page_after pick
journal_behind [] stretch told = refl
journal_behind (e ∷ events) stretch told = journal_behind events stretch told

-- what holds of a refusal holds of each of these
behind : (P : Saying) → ((before : List Event) (told : List Answer) (e : Event) → P before told e (Refused Busy))
    → (before : List Event) (told : List Answer) (events : List Event) → HoldsBehind P before told events (refused events)
behind P each before told [] = tt
behind P each before told (e ∷ events) = (each before told e, behind P each (before ++ (e ∷ [])) (told ++ (Refused Busy ∷ [])) events)

none_over_8 : (events : List Event) → Never11Or10 (refused events)
none_over_8 [] = tt
none_over_8 (e ∷ events) = (omega arith, none_over_8 events)

idle : (events : List Event) → MeetsDemand3 power_up events (refused events) power_up
unfolding computing
idle events =
    let none : journal events (refused events) ≡ [] = none_journalled events in
    record {
      struck_out = record { same_answers = rw (none_accepted events events, none_accepted (refused events) events); same_end = rw (none_accepted events events) };
      whole_sessions = rw (none_accepted events events) sessions.nothing;
      last_write = record { size = refl; word = λ address h. rw none };
      whole_writes = rw none tt;
      words_read = behind _ (λ before told e word p. absent refl p) [] [] events;
      openings = behind _ (λ before told e place p. absent refl p) [] [] events;
      cut_short = λ stretch same.
          (demand_3.met power_up.drive.setup power_up.sectors power_up.staging refl refl []).cut_short stretch
          (sym (journal_behind events stretch (answers power_up stretch)) ∙ same ∙ none);
      never_11_or_10 = none_over_8 events;
    }

-- ---- the runs

abbrev status_at : ℕ → List Answer → ℕ
status_at i told = or_ffff (paper (get_or told i Done)).status

abbrev refusal_at : ℕ → List Answer → ℕ
refusal_at i told = refusal_in (get_or told i Done)

-- a read of the second word, which is zero, does not tell AA
never_read : {w : Standing} → control_of w.transfer.control ≡ Read → next_address power_up.drive.setup w ≡ 1 → WordTold power_up [] w 0xAA → ⊥
unfolding computing
never_read r there (of_read l) = told_apart 0xAA 0 refl (l.written ∙ ap (λ (address : ℕ). get_or power_up.sectors address 0) there)
never_read r there (of_response q) = true≢false (ap is_read (sym r ∙ q.responding))

possible : Possible power_up 0 (at_place 0 0 0) (7 ∷ 1 ∷ 2 ∷ 3 ∷ [])
unfolding computing
possible =
    record {
      sound = stays_sound.at_rest power_up.drive.setup power_up.sectors power_up.staging refl refl;
      real = omega arith;
      inside = refl;
      whole = refl;
    }

pub wrong_runs : WrongRuns
unfolding computing whole_sector_written its_answers
wrong_runs =
    record {
      parts = λ h.
          (h.struck_out, h.whole_sessions, h.last_write, h.whole_writes, h.words_read, h.openings, h.cut_short, h.never_11_or_10);
      idle = idle;
      refuses_all = λ calls. told_apart 6 0 refl (ap (refusal_at 0) ((demand_3_of_calls.ran calls).answered ∙ never_dead.answered power_up 0 _ _ possible));
      always_zero = λ h. told_apart 8 0 refl (ap (status_at 1) h.same_answers);
      does_nothing = λ h. told_apart 0 0xAA refl (h.word 1 (omega arith));
      only_the_first_sector = λ h. told_apart 0 0xAA refl (h.word 5 (omega arith));
      made_up_count = λ h. told_apart 3 2 refl (ap or_ffff (h.1.0 (at_place 0 0 0) refl).count);
      made_up_place = λ h. told_apart 1 0 refl (ap (λ (p : Place). p.sector) (h.1.0 (at_place 0 0 1) refl).follows);
      written_as_they_arrive = λ h. told_apart 0xAA 0 refl (h.word 1 (omega arith));
      end_commits = λ h. told_apart 0xAA 0 refl (h.word 1 (omega arith));
      takeover_keeps_the_transfer = λ h. false≢true (sessions_own h nobody);
      takeover_hands_on = λ h. told_apart 0xAA 0 refl (ap (λ sectors. get_or sectors 1 0) (h (word_sent 1 0xBB ∷ []) refl));
      miscompare_called_good = λ h. told_apart 7 0xFFFF refl (ap (status_at 2) h.same_answers);
      half_aglyph = λ h. told_apart 2 3 refl h.0.words;
      notice_cleared = λ h. told_apart 0xC 0xFFFF refl (ap (status_at 4) h.same_answers);
      priority_select_alone = λ h. told_apart 6 0 refl (ap (refusal_at 2) h.same_answers);
      never_written = λ h. never_read refl refl (h.1.1.0 0xAA refl);
      stranger_deselects = λ h. false≢true (sessions_own h nobody);
      refusal_moves = λ h. told_apart 0 1 refl (ap (λ (m : Machine). m.drive.place.sector) h.same_end);
      finds_itself_unsound = λ h. let over : 11 ≤ 8 = h.0 in omega arith;
      bad_position_moves = λ h. told_apart 0 1 refl (ap (λ (m : Machine). m.drive.place.cylinder) h.same_end);
      cut_short_moves = λ h. told_apart 1 0 refl (ap (λ (p : Place). p.cylinder) (h.1.1.1.1.1.1.0 (at_place 1 0 0) refl).follows);
      command_staged = λ h. told_apart 0 1 refl (ap (λ (m : Machine). get_or m.staging 1 0) h.same_end);
      command_written = λ h. told_apart 0 7 refl (h.word 0 (omega arith));
      command_moves_on = λ h. told_apart 1 0 refl (ap (λ (p : Place). p.sector) (h.1.1.1.0 (at_place 0 0 1) refl).follows);
      status_cleared_early = λ h. told_apart 0x80 0 refl (ap (λ (m : Machine). m.drive.pending0.octet1) h.same_end);
      reserve_forgotten = λ h. told_apart 6 0 refl (ap (refusal_at 4) h.same_answers);
    }
