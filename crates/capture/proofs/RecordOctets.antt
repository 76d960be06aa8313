-- A record's octets and the record undo each other.
-- Assumes nothing.
use Prim.Native.Nat.{ℕ, ◌^◌, ◌<◌, ◌≤◌}
use mathlib.Core.Path.{◌≡◌, sym, ap, ◌∙◌}
use mathlib.Core.List.{List, ◌++◌}
use native.Mathlib.Omega.{arith}
use lib.ListN.{length, get_or, take}
use lib.Seq.{length-take-le}
use Rattle.laws.specs.Lists.{table_from}
use Rattle.laws.specs.Octets.{AllOctets}
use Rattle.laws.proofs.Octets.{number_of_octets, octets_of_number}
use Rattle.capture.specs.Record.{record_of, record_octets}
use Rattle.capture.specs.declared.«record».Record.{Record}
use Rattle.laws.proofs.Runs.{run_read}
use Rattle.laws.proofs.Octets.{octets_taken}

pub octets_of_record : (octets : List ℕ) → 8 ≤ length octets → AllOctets octets → record_octets (record_of octets) ≡ take 8 octets
unfolding record_of
octets_of_record octets long h =
    let tick = octets_of_number 2 (take 2 octets) (length-take-le 2 octets (omega arith)) (octets_taken 2 octets h) in
    ap (λ (front : List ℕ). front ++ table_from (λ i. get_or octets i 0) 2 6) (tick ∙ run_read octets 0 2 (omega arith)) ∙ sym (run_read octets 0 8 long)

pub record_of_octets : (event : Record) (rest : List ℕ) → event.tick < 2 ^ 16 → record_of (record_octets event ++ rest) ≡ event
unfolding record_of
record_of_octets event rest h =
    λ i. record {
      tick = number_of_octets 2 event.tick h i;
      port = event.port;
      kind = event.kind;
      a0 = event.a0;
      a1 = event.a1;
      a2 = event.a2;
      a3 = event.a3;
    }
