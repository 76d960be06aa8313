-- `frame`: a commit changes the named written fields of one sector and no other word; staging changes at one index; what is pending changes as listed here.
use Rattle.std.specs.Prelude.{ℕ, ◌+◌, ◌-◌, ◌≤◌, ◌≡◌, Bool, true, false, ◌&&◌, List, eqb, leb, ltb, length, get_or, set}
use Rattle.laws.specs.Pick.{pick}
use Rattle.status.specs.declared.drive_status.DriveStatus.TheVariants.{Normal, OperationException}
use Rattle.parts.specs.Command.{read_status}
use Rattle.parts.specs.Control.{control_of, is_write, moves_header, names_field1, names_field2, part}
use Rattle.parts.specs.Holding.{is_owned_by_other}
use Rattle.parts.specs.Pending.{nothing_pending, pending_of, reset_complete, OneBit, noticed, faulted}
use Rattle.parts.specs.Kind.{kind_of, word_of}
use Rattle.parts.specs.declared.kind.Kind.{Kind}
use Rattle.parts.specs.declared.kind.Kind.TheVariants.{Select, Use, Reset}
use Rattle.parts.specs.declared.kind.Work.TheVariants.{DataControl, WordFromHost, TakeWord, Position, Target, ReadStatus}
use Rattle.drive.specs.State.{pending_on}
use Rattle.drive.specs.Transfer.{committed}
use Rattle.drive.specs.Able.{Room}
use Rattle.drive.specs.Run.{Machine, answer_to, after}
use Rattle.parts.specs.declared.setup.Setup.{Setup}
use Rattle.parts.specs.declared.setup.Place.{Place}
use Rattle.parts.specs.declared.event.Event.{Event}
use Rattle.parts.specs.declared.pending.Pending.{Pending}
use Rattle.drive.specs.declared.answer.Answer.{Answer}
use Rattle.drive.specs.declared.answer.Answer.TheVariants.{Status, Opened}

-- The address is one of so many from `start` on.
abbrev pub is_in : ℕ → ℕ → ℕ → Bool
is_in start count address = leb start address && ltb address (start + count)

-- "the named written fields go to the sector and nothing else does", said by addresses: the word at an address after a write of these words to the
-- sector at `start`. The header's words are the first, field 1's follow them, field 2's follow those that passed; every other word is as it was.
unfoldable pub word_written : Setup → ℕ → ℕ → List ℕ → ℕ → ℕ → ℕ
word_written s c start words address before =
    let field1 = start + s.header in
    let field2 = start + s.header + s.field1 in
    pick (moves_header c && is_in start s.header address) (get_or words (address - start) 0)
    (pick (names_field1 c && is_in field1 s.field1 address) (get_or words (s.header + (address - field1)) 0)
    (pick (names_field2 c && is_in field2 s.field2 address) (get_or words (s.header + part (names_field1 c) s.field1 + (address - field2)) 0) before))

pub record CommitFrame (s : Setup) (c start : ℕ) (sectors staging : List ℕ) : Type 0 where
  pub size : length (committed s c start sectors staging) ≡ length sectors
  pub word : (address : ℕ) → get_or (committed s c start sectors staging) address 0 ≡ word_written s c start staging address (get_or sectors address 0)

-- The staging words that an event leaves: as they were, or one replaced by the word of a write.
pub data StagingFrame (m : Machine) (e : Event) (left : List ℕ) : Type 0 where
  as_it_was : left ≡ m.staging → StagingFrame m e left
  one_word : kind_of e.kind ≡ Use WordFromHost → is_write (control_of m.drive.transfer.control) ≡ true → left ≡ set m.staging m.drive.transfer.moved (word_of e) → StagingFrame m e left

-- M-102: "an event of kind 3, 7 or 8 (but not M-100's code that reads status)".
pub data ClearsFirst (e : Event) : Kind → Type 0 where
  control : eqb e.a0 read_status ≡ false → ClearsFirst e (Use DataControl)
  position : ClearsFirst e (Use Position)
  target : ClearsFirst e (Use Target)

-- What such a request leaves pending on its port, by its answer, where that is neither a refusal nor C: octet 2 was cleared, and its own bit is set if it
-- is bad.
pub data RequestLeaves : Answer → Pending → Type 0 where
  good : RequestLeaves (Status Normal) nothing_pending
  opening : {words : ℕ} {place : Place} → RequestLeaves (Opened words place) nothing_pending
  bad : {bit : ℕ} → OneBit bit → RequestLeaves (Status OperationException) (pending_of 0 bit)

-- What an event that gets this answer leaves pending on a port. A bit more, by the other port's takeover or by a command of its own that is bad at its last
-- word; octet 2 cleared, by a request of its own that finds octet 1 zero; nothing, by its own read status, kind 9 or the last word of 44; Reset Complete
-- alone, by Reset; or what was pending before.
pub data PendingFrame (m : Machine) (e : Event) (port : ℕ) (answer : Answer) (left : Pending) : Type 0 where
  as_before : left ≡ pending_on m.drive port → PendingFrame m e port answer left
  by_takeover : kind_of e.kind ≡ Select → is_owned_by_other m.drive.holding e.port ≡ true → port ≡ m.drive.holding.owner
      → left ≡ noticed (pending_on m.drive port) → PendingFrame m e port answer left
  by_command : {bit : ℕ} → kind_of e.kind ≡ Use WordFromHost → port ≡ e.port → answer ≡ Status OperationException → OneBit bit
      → left ≡ faulted (pending_on m.drive port) bit → PendingFrame m e port answer left
  by_request : ClearsFirst e (kind_of e.kind) → port ≡ e.port → (pending_on m.drive port).octet1 ≡ 0 → RequestLeaves answer left
      → PendingFrame m e port answer left
  by_status : kind_of e.kind ≡ Use ReadStatus → port ≡ e.port → left ≡ nothing_pending → PendingFrame m e port answer left
  by_last_word : kind_of e.kind ≡ Use TakeWord → m.drive.transfer.control ≡ read_status → m.drive.transfer.moved + 1 ≡ 4 → port ≡ e.port
      → left ≡ nothing_pending → PendingFrame m e port answer left
  by_reset : kind_of e.kind ≡ Reset → left ≡ pending_of reset_complete 0 → PendingFrame m e port answer left

pub record Frame : Type 0 where
  -- "At the last word the named written fields go to the sector and nothing else does."
  pub commit : (s : Setup) (c start : ℕ) (sectors staging : List ℕ) → Room s start sectors staging → CommitFrame s c start sectors staging
  -- "Word k of a write, counted from 0 in that transfer, is staged at index k, and no other staging word changes."
  pub staging : (m : Machine) (e : Event) → StagingFrame m e (after m e).staging
  -- "Read status answers 0 with the octets and clears that port's; nothing else but Reset clears them." "The code that reads status .. clears at its
  -- last word." So it is still for octet 1. Octet 2 of a port is cleared by these, by its own requests that are taken and not answered C (M-102), and by
  -- nothing else.
  pub pending : (m : Machine) (e : Event) (port : ℕ) → port ≤ 1 → PendingFrame m e port (answer_to m e) (pending_on (after m e).drive port)
