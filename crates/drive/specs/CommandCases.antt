-- Worked cases of commands and responses: a second table beside P1 to P12. Each is a run of the bench drive from power-up, with all words zero.
use Rattle.std.specs.Prelude.{ℕ, ◌*◌, ◌≡◌, List, [], ◌∷◌, ◌++◌, replicate}
use Rattle.refusals.specs.declared.refusal.Refusal.TheVariants.{Busy}
use Rattle.status.specs.declared.drive_status.DriveStatus.TheVariants.{Normal, OperationException, UnsolicitedException}
use Rattle.parts.specs.Holding.{nobody, held}
use Rattle.parts.specs.Pending.{alternate_port_priority_select, reset_complete, invalid_parameter, pending_of, nothing_pending}
use Rattle.parts.specs.Tests.{transferring, transferring_with, parameters}
use Rattle.parts.specs.declared.holding.Hold.TheVariants.{None, Strong}
use Rattle.parts.specs.declared.event.Event.{Event}
use Rattle.drive.specs.State.{at_place, with_holding, with_place, with_target, with_transfer, with_pending}
use Rattle.drive.specs.Power.{at_rest}
use Rattle.drive.specs.Run.{machine, answers, final}
use Rattle.drive.specs.Cases.{bench, bench_with, event, select, deselect, control, word, take, end}
use Rattle.drive.specs.declared.drive.Drive.{Drive}
use Rattle.drive.specs.declared.answer.Answer.{Answer}
use Rattle.drive.specs.declared.answer.Answer.TheVariants.{Refused, Done, Status, Opened, Word, LastWord}

pub record CommandCase : Type 0 where
  pub events : List Event
  pub answers : List Answer
  pub end : Drive

abbrev zeros : ℕ → List ℕ
zeros count = replicate count 0

-- The answers are these, the drive ends so, and every sector word and staging word is still zero.
pub record Holds (c : CommandCase) : Type 0 where
  pub answered : answers (bench_with (zeros 4)) c.events ≡ c.answers
  pub ended : final (bench_with (zeros 4)) c.events ≡ machine c.end (zeros 48) (zeros 4)

abbrev reset : ℕ → Event
reset port = event port 10 0 0

-- Load Drive Function, with this function code in both octets.
abbrev function : ℕ → ℕ → List Event
function port code = control port 0x01 ∷ word port (code * 257) ∷ []

-- An opening of so many words at 0/0/0, and 0 at the last word.
abbrev opens : ℕ → Answer
opens words = Opened words (at_place 0 0 0)

abbrev function_done : List Answer
function_done = opens 1 ∷ Status Normal ∷ []

-- Reserve keeps the drive between sessions: the other port gets it with both bits alone.
abbrev pub reserve_keeps : CommandCase
reserve_keeps =
    record {
      events = select 0 0x30 ∷ function 0 0x14 ++ (deselect 0 ∷ select 1 0x30 ∷ select 1 0x31 ∷ select 1 0x32 ∷ select 1 0x33 ∷ []);
      answers = Done ∷ function_done ++ (Done ∷ Refused Busy ∷ Refused Busy ∷ Refused Busy ∷ Done ∷ []);
      end = with_pending (with_holding (at_rest bench) (held 1 1 Strong)) (pending_of alternate_port_priority_select 0) nothing_pending;
    }

-- Release, then Deselect frees the drive.
abbrev pub release_frees : CommandCase
release_frees =
    record {
      events = select 0 0x32 ∷ function 0 0x15 ++ (select 1 0x30 ∷ deselect 0 ∷ select 1 0x30 ∷ []);
      answers = Done ∷ function_done ++ (Refused Busy ∷ Done ∷ Done ∷ []);
      end = with_holding (at_rest bench) (held 1 1 None);
    }

-- Priority Reserve withstands 33.
abbrev pub priority_reserve_withstands : CommandCase
priority_reserve_withstands =
    record {
      events = select 0 0x30 ∷ function 0 0x13 ++ (deselect 0 ∷ select 1 0x33 ∷ []);
      answers = Done ∷ function_done ++ (Done ∷ Refused Busy ∷ []);
      end = with_holding (at_rest bench) (held nobody 0 Strong);
    }

-- Reset ends it, from either port.
abbrev pub reset_ends_it : CommandCase
reset_ends_it =
    record {
      events = select 0 0x30 ∷ function 0 0x13 ++ (deselect 0 ∷ reset 1 ∷ select 1 0x30 ∷ []);
      answers = Done ∷ function_done ++ (Done ∷ Done ∷ Done ∷ []);
      end = with_pending (with_holding (at_rest bench) (held 1 1 None)) (pending_of reset_complete 0) (pending_of reset_complete 0);
    }

-- 44 goes through where C stands, and clears at its last word.
abbrev pub status_where_cstands : CommandCase
status_where_cstands =
    record {
      events = reset 0 ∷ select 0 0x30 ∷ control 0 0xC1 ∷ control 0 0x44 ∷ take 0 ∷ take 0 ∷ take 0 ∷ take 0 ∷ control 0 0xC1 ∷ [];
      answers = Done ∷ Done ∷ Status UnsolicitedException ∷ opens 4 ∷ Word 0x4080 ∷ Word 0 ∷ Word 0 ∷ LastWord 0 ∷ opens 2 ∷ [];
      end = with_transfer (with_pending (with_holding (at_rest bench) (held 0 0 None)) nothing_pending (pending_of reset_complete 0)) (transferring 0xC1 0);
    }

-- 07, and 47 after it.
abbrev pub position_loaded : CommandCase
position_loaded =
    record {
      events = select 0 0x30 ∷ control 0 0x07 ∷ word 0 0 ∷ word 0 1 ∷ word 0 1 ∷ word 0 2 ∷ control 0 0x47 ∷ take 0 ∷ take 0 ∷ take 0 ∷ take 0 ∷ take 0 ∷ [];
      answers = Done ∷ opens 4 ∷ Done ∷ Done ∷ Done ∷ Status Normal ∷ Opened 5 (at_place 1 1 0) ∷ Word 0 ∷ Word 1 ∷ Word 1 ∷ Word 2 ∷ LastWord 0 ∷ [];
      end = with_target (with_place (with_holding (at_rest bench) (held 0 0 None)) (at_place 1 1 0)) 2;
    }

-- 07 with one bad number: 8 at the last word, bit 6, and none of the three changed.
abbrev pub position_bad : CommandCase
position_bad =
    record {
      events = select 0 0x30 ∷ control 0 0x07 ∷ word 0 0 ∷ word 0 1 ∷ word 0 2 ∷ word 0 1 ∷ [];
      answers = Done ∷ opens 4 ∷ Done ∷ Done ∷ Done ∷ Status OperationException ∷ [];
      end = with_pending (with_holding (at_rest bench) (held 0 0 None)) (pending_of 0 invalid_parameter) nothing_pending;
    }

-- A command's words are kept until its last, and are gone when End cuts it short.
abbrev pub words_kept : CommandCase
words_kept =
    record {
      events = select 0 0x30 ∷ control 0 0x07 ∷ word 0 0 ∷ word 0 1 ∷ word 0 1 ∷ [];
      answers = Done ∷ opens 4 ∷ Done ∷ Done ∷ Done ∷ [];
      end = with_transfer (with_holding (at_rest bench) (held 0 0 None)) (transferring_with 0x07 3 (parameters 0 1 1));
    }

abbrev pub cut_by_end : CommandCase
cut_by_end =
    record {
      events = words_kept.events ++ (end 0 ∷ []);
      answers = words_kept.answers ++ (Status Normal ∷ []);
      end = with_holding (at_rest bench) (held 0 0 None);
    }

abbrev pub command_cases : List CommandCase
command_cases =
    reserve_keeps
    ∷ release_frees
    ∷ priority_reserve_withstands
    ∷ reset_ends_it
    ∷ status_where_cstands
    ∷ position_loaded
    ∷ position_bad
    ∷ words_kept
    ∷ cut_by_end
    ∷ []

abbrev pub AllHold : List CommandCase → Type 0
AllHold [] = Unit
AllHold (c ∷ cs) = Holds c × AllHold cs

pub record CommandCasesHold : Type 0 where
  pub all : AllHold command_cases
