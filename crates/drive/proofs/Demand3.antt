-- Demand 3.
-- Assumes nothing.
use Prim.Native.Nat.{ℕ}
use mathlib.Core.Path.{◌≡◌, refl, sym, ap, ◌∙◌}
use mathlib.Core.List.{List, ◌++◌}
use lib.ListN.{get_or}
use lib.Seq.{ext_get_or}
use Rattle.drive.specs.Power.{at_rest}
use Rattle.drive.specs.Run.{Machine, machine, answers, final}
use Rattle.drive.specs.Journal.{journal, last_write}
use Rattle.drive.specs.Reading.{WordFollows}
use Rattle.drive.specs.Standing.{OpeningFollows}
use Rattle.drive.specs.Demand3.{LastWrite, Demand3}
use Rattle.parts.specs.declared.setup.Setup.{Setup}
use Rattle.parts.specs.declared.event.Event.{Event}
use Rattle.drive.proofs.StaysSound.{stays_sound}
use Rattle.drive.proofs.StruckOut.{struck_out}
use Rattle.drive.proofs.Sessions.{whole_sessions}
use Rattle.drive.proofs.Along.{final_goes_on, answers_go_on, same_size_along, along}
use Rattle.drive.proofs.FromPowerUp.{every_word, completed_writes_are_whole, hosts_read_what_was_written, places_are_not_made_up}

module _ (s : Setup) (sectors staging : List ℕ) where
  last_write_lem : (events : List Event) → let start = machine (at_rest s) sectors staging in LastWrite start events (answers start events) (final start events)
  last_write_lem events = record { size = (same_size_along (machine (at_rest s) sectors staging) events).sectors; word = λ address h. every_word s sectors staging events address }

  -- the sectors are what the journal says, so that where it says nothing new they stay
  cut_short : (events stretch : List Event) → let start = machine (at_rest s) sectors staging in
      journal (events ++ stretch) (answers start events ++ answers (final start events) stretch) ≡ journal events (answers start events)
      → (final (final start events) stretch).sectors ≡ (final start events).sectors
  cut_short events stretch same =
      let start = machine (at_rest s) sectors staging in
      let there = final_goes_on start events stretch in
      ext_get_or 0 (final (final start events) stretch).sectors (final start events).sectors (same_size_along (final start events) stretch).sectors (λ address h.
      ap (λ (m : Machine). get_or m.sectors address 0) (sym there)
      ∙ every_word s sectors staging (events ++ stretch) address
      ∙ ap (λ told. last_write s (journal (events ++ stretch) told) address (get_or sectors address 0)) (answers_go_on start events stretch)
      ∙ ap (λ writes. last_write s writes address (get_or sectors address 0)) same
      ∙ sym (every_word s sectors staging events address))

pub demand_3 : Demand3
demand_3 =
    record {
      met = λ s sectors staging h r events.
          let start = machine (at_rest s) sectors staging in
          record {
            struck_out = struck_out start events;
            whole_sessions = whole_sessions start events refl;
            last_write = last_write_lem s sectors staging events;
            whole_writes = completed_writes_are_whole s sectors staging events;
            words_read = along (WordFollows start) start (hosts_read_what_was_written s sectors staging) events;
            openings = along (OpeningFollows s) start (places_are_not_made_up s sectors staging) events;
            cut_short = cut_short s sectors staging events;
            never_11_or_10 = stays_sound.never_11_or_10 start events (stays_sound.at_rest s sectors staging h r);
          };
    }
