-- Demand 3.
use Rattle.std.specs.Prelude.{ℕ, ◌<◌, ◌≡◌, true, false, List, ◌++◌, length, get_or}
use Rattle.parts.specs.Setup.{within_limits}
use Rattle.drive.specs.Refusal.{row10}
use Rattle.drive.specs.Power.{at_rest}
use Rattle.drive.specs.Run.{Machine, machine, answers, final}
use Rattle.drive.specs.Accepted.{accepted}
use Rattle.drive.specs.Sessions.{Sessions}
use Rattle.drive.specs.Journal.{journal, last_write, AllWhole}
use Rattle.drive.specs.Along.{HoldsAlong}
use Rattle.drive.specs.Reading.{WordFollows}
use Rattle.drive.specs.Standing.{OpeningFollows}
use Rattle.drive.specs.StaysSound.{Never11Or10}
use Rattle.parts.specs.declared.setup.Setup.{Setup}
use Rattle.parts.specs.declared.event.Event.{Event}
use Rattle.drive.specs.declared.answer.Answer.{Answer}

-- "Run alone from the same power-up, they give the same answers and the same final drive, sectors and staging."
pub record StruckOut (start : Machine) (events : List Event) (told : List Answer) (end : Machine) : Type 0 where
  pub same_answers : answers start (accepted events told) ≡ accepted told told
  pub same_end : final start (accepted events told) ≡ end

-- "Each sector word is that of the last completed write that covered it, read off the set-up, the events and the answers alone, or else its power-up word."
pub record LastWrite (start : Machine) (events : List Event) (told : List Answer) (end : Machine) : Type 0 where
  pub size : length end.sectors ≡ length start.sectors
  pub word : (address : ℕ) → address < length start.sectors
      → get_or end.sectors address 0 ≡ last_write start.drive.setup (journal events told) address (get_or start.sectors address 0)

-- What the demand says of events that were given these answers, from power-up to an end.
pub record MeetsDemand3 (start : Machine) (events : List Event) (told : List Answer) (end : Machine) : Type 0 where
  -- "Strike out every refused event. .. Run alone from the same power-up, they give the same answers and the same final drive, sectors and staging."
  pub struck_out : StruckOut start events told end
  -- "What is left is whole sessions, one after another, the last perhaps still open."
  pub whole_sessions : Sessions (accepted events told)
  -- "Each sector word is that of the last completed write that covered it .. or else its power-up word."
  pub last_write : LastWrite start events told end
  -- "the last completed write": every one that the journal notes is whole.
  pub whole_writes : AllWhole start.drive.setup (journal events told)
  -- What a host takes of a read is what was last written, "read off the set-up, the events and the answers alone"; 46 and 47 tell where the drive stands.
  pub words_read : HoldsAlong (WordFollows start) events told
  -- And so are the place and the number of words to come of every opening.
  pub openings : HoldsAlong (OpeningFollows start.drive.setup) events told
  -- "A write cut short at any word writes nothing": while the journal notes no completed write, the sectors stay as they were.
  pub cut_short : (stretch : List Event) → journal (events ++ stretch) (told ++ answers end stretch) ≡ journal events told
      → (final end stretch).sectors ≡ end.sectors
  -- "Power up a sound drive": it stays sound.
  pub never_11_or_10 : Never11Or10 told

-- "Power up a sound drive; let two ports send any sequence of events, with nobody else touching the lent words."
pub record Demand3 : Type 0 where
  pub met : (s : Setup) (sectors staging : List ℕ) → within_limits s ≡ true → row10 s sectors staging ≡ false → (events : List Event)
      → let start = machine (at_rest s) sectors staging in MeetsDemand3 start events (answers start events) (final start events)
