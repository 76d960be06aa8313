-- "Decoding and encoding of captures and status octets undo each other wherever the decoding succeeds": so do those of a defect, said
-- of what the calls promise. `proofs/DefectRoundTrip` proves it.
use Rattle.std.specs.Prelude.{ℕ, ◌^◌, ◌<◌, ◌≤◌, ◌≡◌, List, Result, Ok, length, take, ⊤}
use Rattle.laws.specs.Lists.{written_over}
use Rattle.laws.specs.Octets.{AllOctets}
use Rattle.refusals.specs.declared.refusal.Refusal.{Refusal}
use Rattle.defects.specs.Defect.{DecodedDefect, EncodedDefect}
use Rattle.defects.specs.declared.defect.Defect.{Defect}

-- The four numbers fit their 4, 2, 4 and 2 octets, as those that a call is handed always do.
pub record Fitting (d : Defect) : Type 0 where
  pub cylinder : d.cylinder < 2 ^ 32
  pub head : d.head < 2 ^ 16
  pub offset : d.offset < 2 ^ 32
  pub length : d.length < 2 ^ 16

pub record DefectRoundTrip : Type 0 where
  -- What was decoded, encoded into any slice long enough, gives the octets that were decoded.
  pub encode_decode : (octets before after : List ℕ) (d : Defect) (answer : Result ⊤ Refusal)
      → AllOctets octets → DecodedDefect octets (Ok d) → 12 ≤ length before → EncodedDefect d before after answer
      → (answer ≡ Ok tt) × (after ≡ written_over before (take 12 octets))
  -- What was encoded into any slice long enough, decoded, gives the defect that was encoded.
  pub decode_encode : (before after : List ℕ) (d : Defect) (answer : Result ⊤ Refusal)
      → Fitting d → 12 ≤ length before → EncodedDefect d before after answer
      → (answer ≡ Ok tt) × DecodedDefect after (Ok d)
