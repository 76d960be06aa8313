-- A map decoded: the first offence, or what the map tells.
use Rattle.std.specs.Prelude.{ℕ, ◌/◌, ◌≡◌, true, not, List, ◌∷◌, Result, ltb, length}
use Rattle.std.proofs.Math.Option.{Option}
use Rattle.laws.specs.Lists.{written_over}
use Rattle.parts.specs.Setup.{within_limits}
use Rattle.parts.specs.declared.setup.Setup.{Setup}
use Rattle.defects.specs.Offence.{Test, ◌at◌when◌, Found, first_of, found_on_paper, offence_or, unless_found}
use Rattle.defects.specs.Defect.{list_octets}
use Rattle.defects.specs.Place.{data_fields}
use Rattle.defects.specs.Walk.{walk_at, defects_before, map_tests}
use Rattle.defects.specs.declared.defect.Defect.{Defect}
use Rattle.defects.specs.declared.offence.Offence.{Offence}
use Rattle.defects.specs.declared.decoding.MapRead.{MapRead}

-- 9, "a map's set-up" outside its limits; 10, room for less than a third of the octets, since each entry stands three times; then the map's own.
abbrev pub decode_tests : Setup → List ℕ → List ℕ → List Test
decode_tests s octets lent =
    9 at 0 when not (within_limits s) ∷ 10 at 0 when ltb (length lent) (length octets / 3) ∷ map_tests true s octets

abbrev pub decode_offence : Setup → List ℕ → List ℕ → Option Found
decode_offence s octets lent = first_of (decode_tests s octets lent)

-- The defects that the map lists, set by set.
abbrev pub defects_of : Setup → List ℕ → List Defect
defects_of s octets = defects_before s octets (data_fields s)

-- How many defects, and the track of Format Specification Storage.
abbrev pub map_told : ℕ → ℕ → ℕ → MapRead
map_told count cylinder head = record { count = count; storage_cylinder = cylinder; storage_head = head }

-- What a map without an offence tells.
abbrev pub map_of : Setup → List ℕ → MapRead
map_of s octets =
    let end = walk_at s octets (data_fields s) in
    map_told (length (defects_of s octets)) end.cylinder end.head

-- The answer on paper: the number of the first offence and where it lies, or what the map tells.
abbrev pub decoded_in : Setup → List ℕ → List ℕ → Result MapRead Found
decoded_in s octets lent = offence_or (decode_offence s octets lent) (map_of s octets)

-- The promise of `decode_map`.
pub record DecodedMap (s : Setup) (octets before after : List ℕ) (r : Result MapRead Offence) : Type 0 where
  pub answer : found_on_paper r ≡ decoded_in s octets before
  pub slice : after ≡ unless_found (decode_offence s octets before) before (written_over before (list_octets (defects_of s octets)))
