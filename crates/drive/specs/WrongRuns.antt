-- Runs of wrong drives, and the part of demand 3 that refuses each.
use Rattle.std.specs.Prelude.{ℕ, ◌≡◌, List, [], ◌∷◌, ◌++◌, map, replicate}
use Rattle.refusals.specs.declared.refusal.Refusal.TheVariants.{Busy, UnsoundState}
use Rattle.status.specs.declared.drive_status.DriveStatus.TheVariants.{Normal}
use Rattle.parts.specs.Pending.{alternate_port_priority_select, reset_complete, invalid_parameter, pending_of, nothing_pending}
use Rattle.parts.specs.Tests.{transferring, no_transfer}
use Rattle.parts.specs.declared.holding.Hold.TheVariants.{None}
use Rattle.parts.specs.declared.pending.Pending.{Pending}
use Rattle.parts.specs.declared.transfer.Transfer.{Transfer}
use Rattle.parts.specs.declared.event.Event.{Event}
use Rattle.drive.specs.State.{at_place, with_place, with_transfer, with_pending}
use Rattle.drive.specs.Run.{Machine, machine, answers, final}
use Rattle.drive.specs.Accepted.{accepted}
use Rattle.drive.specs.Sessions.{Sessions}
use Rattle.drive.specs.Along.{HoldsAlong}
use Rattle.drive.specs.Journal.{journal, AllWhole}
use Rattle.drive.specs.Reading.{WordFollows}
use Rattle.drive.specs.Standing.{OpeningFollows}
use Rattle.drive.specs.StaysSound.{Never11Or10}
use Rattle.drive.specs.Demand3.{StruckOut, LastWrite, MeetsDemand3}
use Rattle.drive.specs.Calls.{Calls}
use Rattle.drive.specs.Cases.{bench_with, p8, p10, p11, p12}
use Rattle.drive.specs.CommandCases.{position_loaded, position_bad, words_kept, cut_by_end}
use Rattle.drive.specs.NeverDead.{sent, word_sent, whole_sector_written}
use Rattle.drive.specs.WrongAnswers.{selected_by}
use Rattle.drive.specs.declared.answer.Answer.{Answer}
use Rattle.drive.specs.declared.answer.Answer.TheVariants.{Refused, Done, Status, Opened, Word, Response}

-- What a drive was sent, what it told, and what it left.
pub record WrongRun : Type 0 where
  pub events : List Event
  pub told : List Answer
  pub end : Machine

-- All from this power-up: the first sector holds header 7, all other words are zero.
abbrev pub power_up : Machine
power_up = bench_with (7 ∷ 0 ∷ 0 ∷ 0 ∷ [])

-- What is said of a run from a start, and is not true of this one.
abbrev pub Never : (Machine → List Event → List Answer → Machine → Type 0) → WrongRun → Type 0
Never Said run = Said power_up run.events run.told run.end → ⊥

-- The parts of demand 3 that have no name of their own.
abbrev pub WholeSessions : Machine → List Event → List Answer → Machine → Type 0
WholeSessions start events told end = Sessions (accepted events told)

abbrev pub WholeWrites : Machine → List Event → List Answer → Machine → Type 0
WholeWrites start events told end = AllWhole start.drive.setup (journal events told)

abbrev pub WordsRead : Machine → List Event → List Answer → Machine → Type 0
WordsRead start events told end = HoldsAlong (WordFollows start) events told

abbrev pub Openings : Machine → List Event → List Answer → Machine → Type 0
Openings start events told end = HoldsAlong (OpeningFollows start.drive.setup) events told

abbrev pub WritesNothing : Machine → List Event → List Answer → Machine → Type 0
WritesNothing start events told end =
    (stretch : List Event) → journal (events ++ stretch) (told ++ answers end stretch) ≡ journal events told → (final end stretch).sectors ≡ end.sectors

abbrev pub NeverUnsound : Machine → List Event → List Answer → Machine → Type 0
NeverUnsound start events told end = Never11Or10 told

-- A port is selected without a hold, the position is this sector of track 0/0, this transfer is open; the first sector's words, and the staging.
abbrev left : ℕ → ℕ → Transfer → List ℕ → List ℕ → Machine
left port sector transfer first staging =
    machine (with_transfer (with_place (selected_by port None) (at_place 0 0 sector)) transfer) (first ++ replicate 44 0) staging

-- The same, with this pending on port 0 and on port 1; and with the notice of a takeover pending on port 0.
abbrev owing : Machine → Pending → Pending → Machine
owing m p q = machine (with_pending m.drive p q) m.sectors m.staging

abbrev noticed : Machine → Machine
noticed m = owing m (pending_of alternate_port_priority_select 0) nothing_pending

abbrev untouched : List ℕ
untouched = 7 ∷ 0 ∷ 0 ∷ 0 ∷ []

abbrev half : List ℕ
half = 7 ∷ 0xAA ∷ 0 ∷ 0 ∷ []

abbrev whole : List ℕ
whole = 7 ∷ 0xAA ∷ 0xBB ∷ 0 ∷ []

abbrev zeros : List ℕ
zeros = replicate 4 0

-- "a drive that refuses all"
abbrev pub all_refused : List Event → WrongRun
all_refused events = record { events = events; told = map (λ e. Refused Busy) events; end = power_up }

abbrev pub refuses_all : WrongRun
refuses_all = all_refused (whole_sector_written 0 3 (at_place 0 0 0) (7 ∷ 1 ∷ 2 ∷ 3 ∷ []))

-- "one that always answers 0": P8's control D0 too.
abbrev pub always_zero : WrongRun
always_zero = record { events = p8.events; told = Done ∷ Status Normal ∷ Response 0 0 0 ∷ []; end = left 0 0 no_transfer untouched zeros }

-- "or does nothing": P11, with the right answers.
abbrev pub does_nothing : WrongRun
does_nothing = record { events = p11.events; told = p11.answers; end = power_up }

-- "one that stores the first sector and only claims the rest": P11, and the same words for the next sector.
abbrev pub only_the_first_sector : WrongRun
only_the_first_sector =
    record {
      events = p11.events ++ (sent 0 3 0x85 0 ∷ word_sent 0 0 ∷ word_sent 0 0xAA ∷ word_sent 0 0xBB ∷ []);
      told = p11.answers ++ (Opened 3 (at_place 0 0 1) ∷ Done ∷ Done ∷ Status Normal ∷ []);
      end = left 0 2 no_transfer whole (0 ∷ 0xAA ∷ 0xBB ∷ 0 ∷ []);
    }

-- A read of field 1 is opened, and this is told of it.
abbrev read_opened : Answer → WrongRun
read_opened opening =
    record { events = sent 0 1 0x30 0 ∷ sent 0 3 0xC1 0 ∷ []; told = Done ∷ opening ∷ []; end = left 0 0 (transferring 0xC1 0) untouched zeros }

-- "a made-up number of words to come": field 1 has two.
abbrev pub made_up_count : WrongRun
made_up_count = read_opened (Opened 3 (at_place 0 0 0))

-- A made-up place: the position is 0/0/0.
abbrev pub made_up_place : WrongRun
made_up_place = read_opened (Opened 2 (at_place 0 0 1))

-- "Writing words as they arrive, so a takeover leaves half a glyph": P12.
abbrev pub written_as_they_arrive : WrongRun
written_as_they_arrive = record { events = p12.events; told = p12.answers; end = noticed (left 1 0 no_transfer half half) }

-- End commits what was sent so far.
abbrev pub end_commits : WrongRun
end_commits =
    record {
      events = sent 0 1 0x30 0 ∷ sent 0 3 0x85 0 ∷ word_sent 0 7 ∷ word_sent 0 0xAA ∷ sent 0 6 0 0 ∷ [];
      told = Done ∷ Opened 3 (at_place 0 0 0) ∷ Done ∷ Done ∷ Status Normal ∷ [];
      end = left 0 1 no_transfer half half;
    }

-- A takeover that keeps the transfer: after P12, port 0's last word is accepted.
abbrev pub takeover_keeps_the_transfer : WrongRun
takeover_keeps_the_transfer =
    record { events = p12.events ++ (word_sent 0 0xBB ∷ []); told = p12.answers ++ (Status Normal ∷ []); end = noticed (left 1 1 no_transfer whole whole) }

-- And one that hands it on: nothing is told wrong, but port 1 could now finish port 0's write.
abbrev pub takeover_hands_on : WrongRun
takeover_hands_on = record { events = p12.events; told = p12.answers; end = noticed (left 1 0 (transferring 0x85 2) untouched half) }

-- "The board called a header that didn't match a good write": P10's header 8, and the letter stored over another font.
abbrev pub miscompare_called_good : WrongRun
miscompare_called_good =
    record {
      events = p10.events ++ (word_sent 0 0xAA ∷ word_sent 0 0xBB ∷ []);
      told = p11.answers;
      end = left 0 1 no_transfer whole (8 ∷ 0xAA ∷ 0xBB ∷ 0 ∷ []);
    }

-- "Half a glyph draws as nothing": 0 after two of the three words, the rest zeros.
abbrev pub half_aglyph : WrongRun
half_aglyph =
    record {
      events = sent 0 1 0x30 0 ∷ sent 0 3 0x85 0 ∷ word_sent 0 7 ∷ word_sent 0 0xAA ∷ [];
      told = Done ∷ Opened 3 (at_place 0 0 0) ∷ Done ∷ Status Normal ∷ [];
      end = left 0 1 no_transfer half half;
    }

-- "Clearing the loser's notice at its next selection": the control opens a read, and is not answered C.
abbrev pub notice_cleared : WrongRun
notice_cleared =
    record {
      events = sent 0 1 0x30 0 ∷ sent 1 1 0x31 0 ∷ sent 1 2 0 0 ∷ sent 0 1 0x30 0 ∷ sent 0 3 0xC1 0 ∷ [];
      told = Done ∷ Done ∷ Done ∷ Done ∷ Opened 2 (at_place 0 0 0) ∷ [];
      end = left 0 0 (transferring 0xC1 0) untouched zeros;
    }

-- "Letting Priority Select alone break a plain hold": P4.
abbrev pub priority_select_alone : WrongRun
priority_select_alone =
    record {
      events = sent 0 1 0x32 0 ∷ sent 0 2 0 0 ∷ sent 1 1 0x31 0 ∷ [];
      told = Done ∷ Done ∷ Done ∷ [];
      end = noticed (left 1 0 no_transfer untouched zeros);
    }

-- A host reads a word that was never written there.
abbrev pub never_written : WrongRun
never_written =
    record {
      events = sent 0 1 0x30 0 ∷ sent 0 3 0xC1 0 ∷ sent 0 5 0 0 ∷ [];
      told = Done ∷ Opened 2 (at_place 0 0 0) ∷ Word 0xAA ∷ [];
      end = left 0 0 (transferring 0xC1 1) untouched zeros;
    }

-- A stranger deselects the port that is selected.
abbrev pub stranger_deselects : WrongRun
stranger_deselects = record { events = sent 0 1 0x30 0 ∷ sent 1 2 0 0 ∷ []; told = Done ∷ Done ∷ []; end = power_up }

-- A refused selection moves the sector.
abbrev pub refusal_moves : WrongRun
refusal_moves = record { events = sent 0 1 0x30 0 ∷ sent 1 1 0x30 0 ∷ []; told = Done ∷ Refused Busy ∷ []; end = left 0 1 no_transfer untouched zeros }

-- A drive that finds itself unsound after power-up.
abbrev pub finds_itself_unsound : WrongRun
finds_itself_unsound = record { events = sent 0 1 0x30 0 ∷ []; told = Refused UnsoundState ∷ []; end = power_up }

-- ---- commands and responses

-- The cylinder has moved.
abbrev on_cylinder1 : Transfer → Machine
on_cylinder1 transfer = machine (with_transfer (with_place (selected_by 0 None) (at_place 1 0 0)) transfer) power_up.sectors zeros

-- "A place or target outside the drive: bit 6." The head is outside, and the cylinder moves all the same.
abbrev pub bad_position_moves : WrongRun
bad_position_moves =
    record { events = position_bad.events; told = position_bad.answers; end = owing (on_cylinder1 no_transfer) (pending_of 0 invalid_parameter) nothing_pending }

-- "a command cut short has no effect beyond its opening": the cylinder has moved, as the next opening tells.
abbrev pub cut_short_moves : WrongRun
cut_short_moves =
    let opening = Opened 2 (at_place 1 0 0) in
    record { events = cut_by_end.events ++ (sent 0 3 0xC1 0 ∷ []); told = cut_by_end.answers ++ (opening ∷ []); end = on_cylinder1 (transferring 0xC1 0) }

-- "never staged": the words of a command go to staging,
abbrev pub command_staged : WrongRun
command_staged =
    record { events = words_kept.events; told = words_kept.answers; end = machine words_kept.end power_up.sectors (0 ∷ 1 ∷ 1 ∷ 0 ∷ []) }

-- and at the last one to the sector, like those of a write.
abbrev pub command_written : WrongRun
command_written =
    record {
      events = words_kept.events ++ (word_sent 0 2 ∷ []);
      told = words_kept.answers ++ (Status Normal ∷ []);
      end = machine position_loaded.end ((0 ∷ 1 ∷ 1 ∷ 2 ∷ []) ++ replicate 44 0) zeros;
    }

-- "a command's end doesn't make the sector the next": after 06, a read opens at sector 1.
abbrev pub command_moves_on : WrongRun
command_moves_on =
    record {
      events = sent 0 1 0x30 0 ∷ sent 0 3 0x06 0 ∷ word_sent 0 0xFFFF ∷ sent 0 3 0xC1 0 ∷ [];
      told = Done ∷ Opened 1 (at_place 0 0 0) ∷ Status Normal ∷ Opened 2 (at_place 0 0 1) ∷ [];
      end = left 0 1 (transferring 0xC1 0) untouched zeros;
    }

-- "clears at its last word": 44 clears at its first.
abbrev pub status_cleared_early : WrongRun
status_cleared_early =
    record {
      events = sent 0 10 0 0 ∷ sent 0 1 0x30 0 ∷ sent 0 3 0x44 0 ∷ sent 0 5 0 0 ∷ [];
      told = Done ∷ Done ∷ Opened 4 (at_place 0 0 0) ∷ Word 0x4080 ∷ [];
      end = owing (left 0 0 (transferring 0x44 1) untouched zeros) nothing_pending (pending_of reset_complete 0);
    }

-- "Reserve by the selected port makes at least a plain hold": Priority Select alone gets the drive after it.
abbrev pub reserve_forgotten : WrongRun
reserve_forgotten =
    record {
      events = sent 0 1 0x30 0 ∷ sent 0 3 0x01 0 ∷ word_sent 0 0x1414 ∷ sent 0 2 0 0 ∷ sent 1 1 0x31 0 ∷ [];
      told = Done ∷ Opened 1 (at_place 0 0 0) ∷ Status Normal ∷ Done ∷ Done ∷ [];
      end = left 1 0 no_transfer untouched zeros;
    }

pub record WrongRuns : Type 0 where
  -- These are the parts of demand 3: what one of them refuses, no drive that meets it does.
  pub parts : {start end : Machine} {events : List Event} {told : List Answer} → MeetsDemand3 start events told end
      → StruckOut start events told end
      × WholeSessions start events told end
      × LastWrite start events told end
      × WholeWrites start events told end
      × WordsRead start events told end
      × Openings start events told end
      × WritesNothing start events told end
      × NeverUnsound start events told end
  -- "Striking out refused events is also true of an idle drive": demand 3 allows it, whatever the events. Calls that keep their promise do not.
  pub idle : (events : List Event) → let run = all_refused events in MeetsDemand3 power_up run.events run.told run.end
  pub refuses_all : Never Calls refuses_all
  pub always_zero : Never StruckOut always_zero
  pub does_nothing : Never LastWrite does_nothing
  pub only_the_first_sector : Never LastWrite only_the_first_sector
  pub made_up_count : Never Openings made_up_count
  pub made_up_place : Never Openings made_up_place
  pub written_as_they_arrive : Never LastWrite written_as_they_arrive
  pub end_commits : Never LastWrite end_commits
  pub takeover_keeps_the_transfer : Never WholeSessions takeover_keeps_the_transfer
  pub takeover_hands_on : Never WritesNothing takeover_hands_on
  pub miscompare_called_good : Never StruckOut miscompare_called_good
  pub half_aglyph : Never WholeWrites half_aglyph
  pub notice_cleared : Never StruckOut notice_cleared
  pub priority_select_alone : Never StruckOut priority_select_alone
  pub never_written : Never WordsRead never_written
  pub stranger_deselects : Never WholeSessions stranger_deselects
  pub refusal_moves : Never StruckOut refusal_moves
  pub finds_itself_unsound : Never NeverUnsound finds_itself_unsound
  pub bad_position_moves : Never StruckOut bad_position_moves
  pub cut_short_moves : Never Openings cut_short_moves
  pub command_staged : Never StruckOut command_staged
  pub command_written : Never LastWrite command_written
  pub command_moves_on : Never Openings command_moves_on
  pub status_cleared_early : Never StruckOut status_cleared_early
  pub reserve_forgotten : Never StruckOut reserve_forgotten
