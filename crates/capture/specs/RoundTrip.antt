-- "Decoding and encoding of captures and status octets undo each other wherever the decoding succeeds": records and captures, said
-- of what the calls promise. `proofs/RoundTrip` proves both.
use Rattle.std.specs.Prelude.{ℕ, ◌/◌, ◌^◌, ◌<◌, ◌≤◌, ◌≡◌, List, Result, Ok, ⊤, length, take}
use Rattle.laws.specs.Lists.{written_over}
use Rattle.laws.specs.Octets.{AllOctets}
use Rattle.capture.specs.Record.{DecodedRecord, EncodedRecord}
use Rattle.capture.specs.Capture.{DecodedCapture, NotesGiven, RecordsGiven}
use Rattle.capture.specs.Encoding.{EncodedCapture}
use Rattle.capture.specs.declared.«record».Record.{Record}
use Rattle.capture.specs.declared.capture.Capture.{Capture}
use Rattle.refusals.specs.declared.refusal.Refusal.{Refusal}

pub record RecordRoundTrip : Type 0 where
  -- What was decoded, encoded into any slice long enough, gives the octets that were decoded.
  pub encode_decode : (octets before after : List ℕ) (event : Record) (answer : Result ⊤ Refusal)
      → AllOctets octets → DecodedRecord octets (Ok event) → 8 ≤ length before → EncodedRecord event before after answer
      → (answer ≡ Ok tt) × (after ≡ written_over before (take 8 octets))
  -- What was encoded into any slice long enough, decoded, gives the record that was encoded.
  pub decode_encode : (before after : List ℕ) (event : Record) (answer : Result ⊤ Refusal)
      → event.tick < 2 ^ 16 → 8 ≤ length before → EncodedRecord event before after answer
      → (answer ≡ Ok tt) × DecodedRecord after (Ok event)

pub record CaptureRoundTrip : Type 0 where
  -- The notes and records of a capture that is decoded, encoded into any slice long enough, give the same capture.
  pub encode_decode : (octets notes records before after : List ℕ) (found : Capture) (answer : Result ℕ Refusal)
      → AllOctets octets → DecodedCapture octets (Ok found) → NotesGiven octets notes → RecordsGiven octets records
      → length octets ≤ length before → EncodedCapture notes records before after answer
      → (answer ≡ Ok (length octets)) × (after ≡ written_over before octets)
  -- What was encoded, decoded, gives the notes and records that were encoded.
  pub decode_encode : (notes records before after : List ℕ) (size : ℕ)
      → EncodedCapture notes records before after (Ok size)
      → let octets = take size after in
      DecodedCapture octets (Ok (record { first = length notes; count = length records / 8 })) × NotesGiven octets notes × RecordsGiven octets records
