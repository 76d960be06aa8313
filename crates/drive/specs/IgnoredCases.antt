-- Worked cases of M-102, line by line: runs of the bench drive from power-up, with all words zero. The request's own case stands in `Cases`.
use Rattle.std.specs.Prelude.{ℕ, ◌≡◌, List, [], ◌∷◌, map, replicate}
use Rattle.status.specs.declared.drive_status.DriveStatus.TheVariants.{Normal, OperationException, UnsolicitedException}
use Rattle.parts.specs.Pending.{pending_of, nothing_pending}
use Rattle.parts.specs.declared.event.Event.{Event}
use Rattle.parts.specs.declared.pending.Pending.{Pending}
use Rattle.drive.specs.State.{at_place}
use Rattle.drive.specs.Run.{Machine, answer_to, after}
use Rattle.drive.specs.Cases.{bench_with, event, select, deselect, control, take, status, end}
use Rattle.drive.specs.NeverDead.{position_sent}
use Rattle.drive.specs.declared.answer.Answer.{Answer}
use Rattle.drive.specs.declared.answer.Answer.TheVariants.{Done, Status, Opened, Word, Response}

-- An event, its answer, and what is pending on port 0 and on port 1 after it.
pub record Line : Type 0 where
  pub event : Event
  pub answer : Answer
  pub octets0 : Pending
  pub octets1 : Pending

abbrev pub line : Event → Answer → Pending → Pending → Line
line event answer octets0 octets1 = record { event = event; answer = answer; octets0 = octets0; octets1 = octets1 }

-- What the drive answers and leaves pending, event by event.
abbrev pub ran : Machine → List Event → List Line
ran m [] = []
ran m (e ∷ events) = line e (answer_to m e) (after m e).drive.pending0 (after m e).drive.pending1 ∷ ran (after m e) events

abbrev pub AsWritten : List Line → Type 0
AsWritten lines = ran (bench_with (replicate 4 0)) (map (λ (l : Line). l.event) lines) ≡ lines

abbrev none : Pending
none = nothing_pending

-- A bit of octet 2, and nothing in octet 1.
abbrev fault : ℕ → Pending
fault bit = pending_of 0x00 bit

abbrev position : ℕ → ℕ → ℕ → ℕ → Event
position port cylinder head sector = position_sent port (at_place cylinder head sector)

abbrev target : ℕ → ℕ → Event
target port sector = event port 8 0 sector

-- A second bad request leaves its own bit alone.
abbrev pub own_bit_alone : List Line
own_bit_alone =
    line (select 0 0x30) Done none none
    ∷ line (control 0 0xD0) (Status OperationException) (fault 0x80) none
    ∷ line (position 0 2 0 0) (Status OperationException) (fault 0x40) none
    ∷ line (control 0 0x8C) (Status OperationException) (fault 0x10) none
    ∷ line (status 0) (Response 0x20 0x00 0x10) none none
    ∷ []

-- C clears nothing.
abbrev pub c_clears_nothing : List Line
c_clears_nothing =
    line (select 0 0x30) Done none none
    ∷ line (control 0 0xD0) (Status OperationException) (fault 0x80) none
    ∷ line (select 1 0x31) Done (pending_of 0x40 0x80) none
    ∷ line (deselect 1) Done (pending_of 0x40 0x80) none
    ∷ line (select 0 0x30) Done (pending_of 0x40 0x80) none
    ∷ line (control 0 0xC1) (Status UnsolicitedException) (pending_of 0x40 0x80) none
    ∷ line (position 0 0 0 0) (Status UnsolicitedException) (pending_of 0x40 0x80) none
    ∷ line (status 0) (Response 0x60 0x40 0x80) none none
    ∷ []

-- Step Head, Target and Position that are good clear too; the other port's octet 2 stays.
abbrev pub good_ones_clear : List Line
good_ones_clear =
    line (select 1 0x30) Done none none
    ∷ line (control 1 0xD0) (Status OperationException) none (fault 0x80)
    ∷ line (deselect 1) Done none (fault 0x80)
    ∷ line (select 0 0x30) Done none (fault 0x80)
    ∷ line (control 0 0xD0) (Status OperationException) (fault 0x80) (fault 0x80)
    ∷ line (control 0 0x90) (Status Normal) none (fault 0x80)
    ∷ line (control 0 0xD0) (Status OperationException) (fault 0x80) (fault 0x80)
    ∷ line (target 0 1) (Status Normal) none (fault 0x80)
    ∷ line (control 0 0xD0) (Status OperationException) (fault 0x80) (fault 0x80)
    ∷ line (position 0 1 1 1) (Status Normal) none (fault 0x80)
    ∷ []

-- The code that reads status does not clear at its opening; one cut short leaves the bit to the next request.
abbrev pub status_leaves_it : List Line
status_leaves_it =
    line (select 0 0x30) Done none none
    ∷ line (control 0 0xD0) (Status OperationException) (fault 0x80) none
    ∷ line (control 0 0x44) (Opened 4 (at_place 0 0 0)) (fault 0x80) none
    ∷ line (take 0) (Word 0x2000) (fault 0x80) none
    ∷ line (take 0) (Word 0x8000) (fault 0x80) none
    ∷ line (end 0) (Status Normal) (fault 0x80) none
    ∷ line (control 0 0x46) (Opened 1 (at_place 0 0 0)) none none
    ∷ []

pub record IgnoredCasesHold : Type 0 where
  pub own_bit_alone : AsWritten own_bit_alone
  pub c_clears_nothing : AsWritten c_clears_nothing
  pub good_ones_clear : AsWritten good_ones_clear
  pub status_leaves_it : AsWritten status_leaves_it
