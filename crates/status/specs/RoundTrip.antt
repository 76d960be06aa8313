-- "Decoding and encoding of captures and status octets undo each other wherever the decoding succeeds": the status octets, said of
-- what the calls promise. `proofs/RoundTrip` proves both.
use Rattle.std.specs.Prelude.{ℕ, ◌≤◌, ◌≡◌, List, Result, Ok, ⊤, length, take}
use Rattle.laws.specs.Lists.{written_over}
use Rattle.status.specs.Encoded.{EncodedAs}
use Rattle.status.specs.DriveStatus.{drive_status_octets, DecodedDriveStatus}
use Rattle.status.specs.Response.{response_octets, DecodedResponse}
use Rattle.refusals.specs.declared.refusal.Refusal.{Refusal}
use Rattle.status.specs.declared.drive_status.DriveStatus.{DriveStatus}
use Rattle.status.specs.declared.response.Response.{Response}

pub record DriveStatusRoundTrip : Type 0 where
  -- What was decoded, encoded into any slice long enough, gives the octet that was decoded.
  pub encode_decode : (octets before after : List ℕ) (status : DriveStatus) (answer : Result ⊤ Refusal)
      → DecodedDriveStatus octets (Ok status) → 1 ≤ length before → EncodedAs (drive_status_octets status) before after answer
      → (answer ≡ Ok tt) × (after ≡ written_over before (take 1 octets))
  -- What was encoded into any slice long enough, decoded, gives the value that was encoded.
  pub decode_encode : (before after : List ℕ) (status : DriveStatus) (answer : Result ⊤ Refusal)
      → 1 ≤ length before → EncodedAs (drive_status_octets status) before after answer
      → (answer ≡ Ok tt) × DecodedDriveStatus after (Ok status)

pub record ResponseRoundTrip : Type 0 where
  -- What was decoded, encoded into any slice long enough, gives the octets that were decoded.
  pub encode_decode : (octets before after : List ℕ) (response : Response) (answer : Result ⊤ Refusal)
      → DecodedResponse octets (Ok response) → 8 ≤ length before → EncodedAs (response_octets response) before after answer
      → (answer ≡ Ok tt) × (after ≡ written_over before (take 8 octets))
  -- What was encoded into any slice long enough, decoded, gives the value that was encoded.
  pub decode_encode : (before after : List ℕ) (response : Response) (answer : Result ⊤ Refusal)
      → 8 ≤ length before → EncodedAs (response_octets response) before after answer
      → (answer ≡ Ok tt) × DecodedResponse after (Ok response)
