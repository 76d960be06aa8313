-- What is known of commands and responses, whatever the state.
use Rattle.std.specs.Prelude.{ℕ, ◌<◌, ◌≤◌, ◌/◌, ◌%◌, ◌≡◌, true, false, List, [], ◌∷◌, ◌⊎◌, eqb, replicate}
use Rattle.laws.specs.Pick.{pick}
use Rattle.status.specs.declared.drive_status.DriveStatus.TheVariants.{Normal}
use Rattle.parts.specs.Setup.{is_place, is_target}
use Rattle.parts.specs.Command.{load_drive_function, load_position, read_status, function_in}
use Rattle.parts.specs.Control.{is_data}
use Rattle.parts.specs.Holding.{at_least_plain, with_hold}
use Rattle.parts.specs.Kind.{kind_of, word_of}
use Rattle.parts.specs.declared.kind.Kind.{Kind}
use Rattle.parts.specs.declared.kind.Kind.TheVariants.{Select, Deselect, Use, Reset, Unknown}
use Rattle.parts.specs.declared.kind.Work.{Work}
use Rattle.parts.specs.declared.kind.Work.TheVariants.{DataControl, WordFromHost, TakeWord, End, Position, Target, ReadStatus}
use Rattle.parts.specs.Tests.{transferring}
use Rattle.parts.specs.declared.command.Function.{Function}
use Rattle.parts.specs.declared.command.Function.TheVariants.{PriorityReserve, Reserve, Release, NoOperation, Recalibrate, ActsOnMore, NotListed}
use Rattle.parts.specs.declared.holding.Hold.{Hold}
use Rattle.parts.specs.declared.holding.Hold.TheVariants.{None, Strong}
use Rattle.parts.specs.declared.setup.Place.{Place}
use Rattle.parts.specs.declared.event.Event.{Event}
use Rattle.drive.specs.State.{with_transfer, pending_on}
use Rattle.drive.specs.Drive.{selected, after_reset, closed}
use Rattle.drive.specs.Request.{octet2_cleared}
use Rattle.drive.specs.Command.{status_told}
use Rattle.drive.specs.Refusal.{is_one_open}
use Rattle.drive.specs.Accepted.{is_refused}
use Rattle.drive.specs.Run.{Machine, answer_to, after, answers, final}
use Rattle.drive.specs.Sessions.{Is}
use Rattle.drive.specs.CutShort.{Words, Cuts}
use Rattle.drive.specs.StaysSound.{IsSound}
use Rattle.drive.specs.NeverDead.{sent, word_sent, position_sent}
use Rattle.drive.specs.declared.drive.Drive.{Drive}
use Rattle.drive.specs.declared.answer.Answer.{Answer}
use Rattle.drive.specs.declared.answer.Answer.TheVariants.{Done, Status, Opened, Word, LastWord}

-- ---- `holds_by_command`

-- "Reserve by the selected port makes at least a plain hold, Release by that port makes the hold none, and Priority Reserve makes it strong."
abbrev pub hold_after : Function → Hold → Hold
hold_after Reserve hold = at_least_plain hold
hold_after PriorityReserve hold = Strong
hold_after Release hold = None
hold_after NoOperation hold = hold
hold_after Recalibrate hold = hold
hold_after ActsOnMore hold = hold
hold_after NotListed hold = hold

-- The hold that an accepted event of kinds 3 to 9 leaves: only the word of an open Load Drive Function can change it.
abbrev pub hold_left : Work → Drive → Event → Hold
hold_left WordFromHost d e =
    pick (eqb d.transfer.control load_drive_function) (hold_after (function_in (word_of e)) d.holding.hold) d.holding.hold
hold_left DataControl d e = d.holding.hold
hold_left TakeWord d e = d.holding.hold
hold_left End d e = d.holding.hold
hold_left Position d e = d.holding.hold
hold_left Target d e = d.holding.hold
hold_left ReadStatus d e = d.holding.hold

abbrev pub HoldsByCommand : Type 0
HoldsByCommand =
    (m : Machine) (e : Event) (work : Work) → Is (Use work) e → is_refused (answer_to m e) ≡ false
    → (after m e).drive.holding ≡ with_hold m.drive.holding (hold_left work m.drive e)

-- ---- `commands_keep_out`

-- "never staged", and "a command's end doesn't make the sector the next".
pub record KeptOut (m n : Machine) : Type 0 where
  pub sectors : n.sectors ≡ m.sectors
  pub staging : n.staging ≡ m.staging
  pub sector : n.drive.place.sector ≡ m.drive.place.sector

pub record CommandsKeepOut : Type 0 where
  -- A control below 80, whatever it is answered.
  pub control : (m : Machine) (e : Event) → Is (Use DataControl) e → is_data e.a0 ≡ false → KeptOut m (after m e)
  -- Kinds 4, 5 and 6 where no data transfer is open: a word sent, a word taken, the end.
  pub work : (m : Machine) (e : Event) (work : Work) → Is (Use work) e → (work ≡ WordFromHost) ⊎ ((work ≡ TakeWord) ⊎ (work ≡ End))
      → is_data m.drive.transfer.control ≡ false → KeptOut m (after m e)
  -- A takeover.
  pub takeover : (m : Machine) (e : Event) → Is Select e → KeptOut m (after m e)

-- ---- `command_cut_short`

-- The drive that the opening of a code leaves, but for what it opens: octet 2 of its port is cleared (M-102), but not by 44.
abbrev pub as_opened : Event → Drive → Drive
as_opened e d = pick (eqb e.a0 read_status) d (octet2_cleared d e.port)

-- What the cut alone makes of a drive.
abbrev pub cut_alone : Kind → Event → Drive → Drive
cut_alone Select e d = selected d e.port e.a0
cut_alone Reset e d = after_reset d
cut_alone (Use work) e d = closed d
cut_alone Deselect e d = d
cut_alone Unknown e d = d

-- "a command cut short has no effect beyond its opening", and neither has a response: one opened with n words to come, fewer were sent or taken, and End, a
-- takeover or a reset came.
abbrev pub CommandCutShort : Type 0
CommandCutShort =
    (m : Machine) (opening cut : Event) (n k : ℕ) (place : Place) (way : Work) (words : List Event) → is_data opening.a0 ≡ false
    → answer_to m opening ≡ Opened n place → (way ≡ WordFromHost) ⊎ (way ≡ TakeWord) → Words way (after m opening) words k → k < n → let short = final (after m opening) words in
    Cuts short cut → (after short cut).drive ≡ cut_alone (kind_of cut.kind) cut (as_opened opening m.drive)

-- ---- `status_by_44` and `position_by_07`

-- A sound drive with this port selected and nothing open.
pub record Idle (m : Machine) (port : ℕ) : Type 0 where
  pub sound : IsSound m
  pub real : port ≤ 1
  pub mine : m.drive.holding.selected ≡ port
  pub idle : is_one_open m.drive ≡ false

abbrev pub takes_sent : ℕ → ℕ → List Event
takes_sent port count = replicate count (sent port 5 0 0)

-- 44, and so many of its words taken.
abbrev pub status_asked : ℕ → ℕ → List Event
status_asked port count = sent port 3 read_status 0 ∷ takes_sent port count

-- Words of a response, the last one with status 0.
abbrev pub taken : List ℕ → List Answer
taken [] = []
taken (word ∷ []) = LastWord word ∷ []
taken (word ∷ next ∷ words) = Word word ∷ taken (next ∷ words)

pub record StatusBy44 (m : Machine) (port : ℕ) : Type 0 where
  -- "The code that reads status is never answered C": it opens, and its four words are the octets that are pending.
  pub told : answers m (status_asked port 4) ≡ Opened 4 m.drive.place ∷ taken (status_told (pending_on m.drive port))
  -- Before the last word nothing is cleared.
  pub before : (count : ℕ) → count < 4 → (final m (status_asked port count)).drive ≡ with_transfer m.drive (transferring read_status count)
  -- After it the drive is the one that Read status leaves.
  pub afterwards : (final m (status_asked port 4)).drive ≡ closed (after m (sent port 9 0 0)).drive

-- "cylinder address", "head address", "RPS target sector address", high first.
abbrev pub position_sent_by07 : ℕ → Place → ℕ → List Event
position_sent_by07 port p target =
    sent port 3 load_position 0 ∷ word_sent port 0 ∷ word_sent port p.cylinder ∷ word_sent port p.head ∷ word_sent port target ∷ []

pub record PositionBy07 (m : Machine) (port : ℕ) (p : Place) (target : ℕ) : Type 0 where
  pub told : answers m (position_sent_by07 port p target) ≡ Opened 4 m.drive.place ∷ Done ∷ Done ∷ Done ∷ Status Normal ∷ []
  -- The drive that Position, with the sector as it stands, and Target would leave.
  pub same : (final m (position_sent_by07 port p target)).drive
      ≡ closed (final m (position_sent port p ∷ sent port 8 (target / 256) (target % 256) ∷ [])).drive

pub record Commands : Type 0 where
  pub holds_by_command : HoldsByCommand
  pub commands_keep_out : CommandsKeepOut
  pub command_cut_short : CommandCutShort
  pub status_by_44 : (m : Machine) (port : ℕ) → Idle m port → StatusBy44 m port
  pub position_by_07 : (m : Machine) (port : ℕ) (p : Place) (target : ℕ) → Idle m port → (pending_on m.drive port).octet1 ≡ 0
      → is_place m.drive.setup p ≡ true → p.sector ≡ m.drive.place.sector → is_target m.drive.setup target ≡ true → PositionBy07 m port p target
