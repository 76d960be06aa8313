-- `never_dead`: "Striking out refused events is also true of an idle drive". A drive that refuses all satisfies the shape of demand 3; this it does not.
use Rattle.std.specs.Prelude.{ℕ, ◌-◌, ◌*◌, ◌/◌, ◌%◌, ◌≤◌, ◌≡◌, true, List, [], ◌∷◌, ◌++◌, map, length, replicate}
use Rattle.status.specs.declared.drive_status.DriveStatus.TheVariants.{Normal}
use Rattle.parts.specs.Setup.{sector_words, sector_at, is_place}
use Rattle.parts.specs.Pending.{reset_complete}
use Rattle.parts.specs.declared.setup.Setup.{Setup}
use Rattle.parts.specs.declared.setup.Place.{Place}
use Rattle.parts.specs.declared.event.Event.{Event}
use Rattle.drive.specs.Run.{Machine, answers, final}
use Rattle.drive.specs.StaysSound.{IsSound}
use Rattle.drive.specs.declared.answer.Answer.{Answer}
use Rattle.drive.specs.declared.answer.Answer.TheVariants.{Done, Status, Opened, Response}

-- An event with at most two argument octets.
abbrev pub sent : ℕ → ℕ → ℕ → ℕ → Event
sent port kind a0 a1 = record { port = port; kind = kind; a0 = a0; a1 = a1; a2 = 0; a3 = 0 }

-- "4 Word from host", and "7 Position(cylinder, head, sector)".
abbrev pub word_sent : ℕ → ℕ → Event
word_sent port word = sent port 4 (word / 256) (word % 256)

abbrev pub position_sent : ℕ → Place → Event
position_sent port p = record { port = port; kind = 7; a0 = p.cylinder / 256; a1 = p.cylinder % 256; a2 = p.head; a3 = p.sector }

-- "address (bits 6 to 4)", and neither Priority Hold nor Priority Select.
abbrev pub selection : ℕ → ℕ
selection address = address * 16

-- "10 write it", "Bit 0 names field 1, bit 1 field 2": the control of a write that covers the whole sector.
abbrev pub whole_sector : ℕ
whole_sector = 0x8B

-- Reset, Select, Read status, Position, the data control, and each word of a sector, all from one port.
unfoldable pub whole_sector_written : ℕ → ℕ → Place → List ℕ → List Event
whole_sector_written port address p words =
    sent port 10 0 0
    ∷ sent port 1 (selection address) 0
    ∷ sent port 9 0 0
    ∷ position_sent port p
    ∷ sent port 3 whole_sector 0
    ∷ map (word_sent port) words

-- What they are answered: done, granted, Reset Complete and nothing else, 0, the words to come and the place, "more" at each word but the last, and 0.
unfoldable pub its_answers : Setup → Place → List Answer
its_answers s p =
    Done
    ∷ Done
    ∷ Response 0x40 reset_complete 0
    ∷ Status Normal
    ∷ Opened (sector_words s) p
    ∷ replicate (sector_words s - 1) Done ++ (Status Normal ∷ [])

-- A sound drive in whatever state, either port, a place in the drive, and the words of a whole sector.
pub record Possible (m : Machine) (port : ℕ) (p : Place) (words : List ℕ) : Type 0 where
  pub sound : IsSound m
  pub real : port ≤ 1
  pub inside : is_place m.drive.setup p ≡ true
  pub whole : length words ≡ sector_words m.drive.setup

pub record NeverDead : Type 0 where
  -- None of these events is refused: the answers are exactly those,
  pub answered : (m : Machine) (port : ℕ) (p : Place) (words : List ℕ) → Possible m port p words
      → answers m (whole_sector_written port m.drive.setup.address p words) ≡ its_answers m.drive.setup p
  -- and then the sector at that place is these words.
  pub written : (m : Machine) (port : ℕ) (p : Place) (words : List ℕ) → Possible m port p words
      → sector_at m.drive.setup p (final m (whole_sector_written port m.drive.setup.address p words)).sectors ≡ words
