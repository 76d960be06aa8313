-- Decoding an encoded map gives the value that was encoded: the map alone, and a map with anything behind it, as it is read off the last
-- cylinder. `proofs/RoundTrip` proves it.
use Rattle.std.specs.Prelude.{ℕ, ◌/◌, ◌≤◌, ◌≡◌, true, false, List, [], ◌∷◌, ◌++◌, Ok, length}
use Rattle.parts.specs.Setup.{within_limits}
use Rattle.parts.specs.declared.setup.Setup.{Setup}
use Rattle.defects.specs.Offence.{no_offence, first_of}
use Rattle.defects.specs.DefectRoundTrip.{Fitting}
use Rattle.defects.specs.Walk.{map_tests}
use Rattle.defects.specs.Decoding.{map_told, defects_of, map_of, decoded_in}
use Rattle.defects.specs.Encoding.{Value, map_octets, is_encodable}
use Rattle.defects.specs.declared.defect.Defect.{Defect}
use Rattle.defects.specs.declared.decoding.MapRead.{MapRead}

-- The numbers of every defect fit their octets.
abbrev pub AllFitting : List Defect → Type 0
AllFitting [] = Unit
AllFitting (d ∷ defects) = Fitting d × AllFitting defects

-- What a map of this value tells.
abbrev pub tells_of : Value → MapRead
tells_of v = map_told (length v.defects) v.cylinder v.head

pub record MapRoundTrip : Type 0 where
  -- What was encoded, decoded with room enough lent, gives the value that was encoded.
  pub decode_encode : (s : Setup) (v : Value) (lent : List ℕ)
      → within_limits s ≡ true → is_encodable s v ≡ true → AllFitting v.defects → length (map_octets s v) / 3 ≤ length lent
      → (decoded_in s (map_octets s v) lent ≡ Ok (tells_of v)) × (defects_of s (map_octets s v) ≡ v.defects)
  -- Where octets may follow a map, any octets may, and the map tells the same.
  pub decode_behind : (s : Setup) (v : Value) (rest : List ℕ)
      → within_limits s ≡ true → is_encodable s v ≡ true → AllFitting v.defects
      → let octets = map_octets s v ++ rest in
      (first_of (map_tests false s octets) ≡ no_offence) × (map_of s octets ≡ tells_of v) × (defects_of s octets ≡ v.defects)
