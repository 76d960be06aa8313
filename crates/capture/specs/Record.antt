-- "Records of 8 octets": what the two calls on a record answer.
use Rattle.std.specs.Prelude.{ℕ, ◌≡◌, List, [], ◌∷◌, ◌++◌, Result, ltb, length, get_or, take, ⊤}
use Rattle.laws.specs.Rows.{Row, first, ◌when◌, unless_refused, refused_or}
use Rattle.laws.specs.Octets.{number_of, octets_of}
use Rattle.laws.specs.Lists.{written_over}
use Rattle.capture.specs.declared.«record».Record.{Record}
use Rattle.refusals.specs.Refusal.{on_paper, refusal_in}
use Rattle.refusals.specs.declared.refusal.Refusal.{Refusal}

-- "Records of 8 octets: tick (2, high first), port, kind, four argument octets (high first, unused ones last)."
unfoldable pub record_of : List ℕ → Record
record_of octets =
    record {
      tick = number_of (take 2 octets);
      port = get_or octets 2 0;
      kind = get_or octets 3 0;
      a0 = get_or octets 4 0;
      a1 = get_or octets 5 0;
      a2 = get_or octets 6 0;
      a3 = get_or octets 7 0;
    }

-- The same octets, from the record.
abbrev pub record_octets : Record → List ℕ
record_octets event = octets_of 2 event.tick ++ (event.port ∷ event.kind ∷ event.a0 ∷ event.a1 ∷ event.a2 ∷ event.a3 ∷ [])

-- "other decoders and all encoders [test] 10, then 8": any 8 octets are a record and every record is what a decoding yields, so
-- no row 8 can hold.
abbrev pub record_rows : List ℕ → List Row
record_rows slice = 10 when ltb (length slice) 8 ∷ []

abbrev pub record_refusal : List ℕ → ℕ
record_refusal slice = first (record_rows slice)

-- The promise of `decode_record`.
pub record DecodedRecord (octets : List ℕ) (r : Result Record Refusal) : Type 0 where
  pub answer : on_paper r ≡ refused_or (record_rows octets) (record_of octets)

-- The promise of `encode_record`.
pub record EncodedRecord (event : Record) (before after : List ℕ) (r : Result ⊤ Refusal) : Type 0 where
  pub answer : refusal_in r ≡ record_refusal before
  pub slice : after ≡ unless_refused (record_refusal before) before (written_over before (record_octets event))
