-- A batch: the events of a capture's records one after another, each on what the last one left, and the words of each answer.
use Rattle.std.specs.Prelude.{ℕ, zero, suc, ◌*◌, ◌/◌, ◌%◌, not, List, [], ◌∷◌, eqb, ltb, length, get_or, drop}
use Rattle.laws.specs.Rows.{Row, first, ◌when◌}
use Rattle.parts.specs.declared.event.Event.{Event}

-- "Records of 8 octets: tick (2, high first), port, kind, four argument octets". The tick is not the drive's.
unfoldable pub event_of : List ℕ → Event
event_of octets =
    record {
      port = get_or octets 2 0;
      kind = get_or octets 3 0;
      a0 = get_or octets 4 0;
      a1 = get_or octets 5 0;
      a2 = get_or octets 6 0;
      a3 = get_or octets 7 0;
    }

-- The events of so many records, one after another.
unfoldable pub events_in : ℕ → List ℕ → List Event
events_in zero octets = []
events_in (suc count) octets = event_of octets ∷ events_in count (drop 8 octets)

abbrev pub record_count : List ℕ → ℕ
record_count octets = length octets / 8

abbrev pub events_of : List ℕ → List Event
events_of octets = events_in (record_count octets) octets

-- The call's own rows: 10 where there is no room for the answers, then 8 where the records are not whole.
abbrev pub batch_rows : List ℕ → List ℕ → List Row
batch_rows records out = 10 when ltb (length out) (13 * record_count records) ∷ 8 when not (eqb (length records % 8) 0) ∷ []

abbrev pub batch_refusal : List ℕ → List ℕ → ℕ
batch_refusal records out = first (batch_rows records out)
