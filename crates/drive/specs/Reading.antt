-- What a host reads, "read off the set-up, the events and the answers alone": where the next word of an open read stands, and what a response tells.
use Rattle.std.specs.Prelude.{ℕ, ◌+◌, ◌-◌, ◌<◌, ◌≡◌, true, false, List, eqb, ltb, length, get_or}
use Rattle.std.proofs.Math.Option.{some}
use Rattle.laws.specs.Pick.{pick}
use Rattle.parts.specs.Setup.{sector_start}
use Rattle.parts.specs.Command.{read_status}
use Rattle.parts.specs.Control.{control_of, is_read, header_passes, names_field1, part}
use Rattle.parts.specs.Pending.{nothing_pending}
use Rattle.parts.specs.declared.control.Control.TheVariants.{Response}
use Rattle.parts.specs.declared.setup.Setup.{Setup}
use Rattle.drive.specs.Answer.{paper}
use Rattle.drive.specs.Command.{words_told}
use Rattle.drive.specs.Run.{Machine}
use Rattle.drive.specs.Along.{Saying}
use Rattle.drive.specs.Journal.{Write, journal, last_write}
use Rattle.drive.specs.Standing.{Standing, at_start, standing_from}

-- "Words pass header, field 1, field 2": where word k of a read stands in its sector.
unfoldable pub offset_of : Setup → ℕ → ℕ → ℕ
offset_of s c k =
    let header = part (header_passes c) s.header in
    let field1 = part (names_field1 c) s.field1 in
    pick (ltb k header) k
    (pick (ltb k (header + field1)) (k - header + s.header)
    (k - header - field1 + s.header + s.field1))

-- The address of the next word of the read that is open.
abbrev pub next_address : Setup → Standing → ℕ
next_address s w = sector_start s w.place + offset_of s w.transfer.control w.transfer.moved

-- A read's word is the one last written where the read has come to, or else the power-up word.
pub record LastWritten (start : Machine) (writes : List Write) (w : Standing) (word : ℕ) : Type 0 where
  pub reading : is_read (control_of w.transfer.control) ≡ true
  pub there : next_address start.drive.setup w < length start.sectors
  pub written : word ≡ last_write start.drive.setup writes (next_address start.drive.setup w) (get_or start.sectors (next_address start.drive.setup w) 0)

-- A response's word: 46 and 47 tell where the drive stands. (What 44 tells is `status_by_44`.)
pub record StandingTold (w : Standing) (word : ℕ) : Type 0 where
  pub responding : control_of w.transfer.control ≡ Response
  pub told : eqb w.transfer.control read_status ≡ false
      → word ≡ get_or (words_told w.transfer.control nothing_pending w.place w.target) w.transfer.moved 0

pub data WordTold (start : Machine) (writes : List Write) (w : Standing) (word : ℕ) : Type 0 where
  of_read : LastWritten start writes w word → WordTold start writes w word
  of_response : StandingTold w word → WordTold start writes w word

abbrev pub WordFollows : Machine → Saying
WordFollows start before told e answer =
    (word : ℕ) → (paper answer).word ≡ some word → WordTold start (journal before told) (standing_from start.drive.setup at_start before told) word
