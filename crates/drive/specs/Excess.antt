-- `excess_stays`: the lent words behind those of the drive, and behind those of one staged sector, stay as they were.
use Rattle.std.specs.Prelude.{◌≡◌, List, drop}
use Rattle.parts.specs.Setup.{sector_words, all_words}
use Rattle.parts.specs.declared.event.Event.{Event}
use Rattle.drive.specs.Run.{Machine, after, final}

-- "The sector slice must hold every sector; staging must hold one sector." What lies behind those words is the same in both machines.
pub record SameExcess (m n : Machine) : Type 0 where
  pub sectors : drop (all_words m.drive.setup) n.sectors ≡ drop (all_words m.drive.setup) m.sectors
  pub staging : drop (sector_words m.drive.setup) n.staging ≡ drop (sector_words m.drive.setup) m.staging

pub record ExcessStays : Type 0 where
  -- "Excess words are never changed": by no event, from any state,
  pub event : (m : Machine) (e : Event) → SameExcess m (after m e)
  -- and so by no run.
  pub run : (m : Machine) (events : List Event) → SameExcess m (final m events)
