-- Where the octets of a map are read.
use Rattle.std.specs.Prelude.{ℕ, ◌+◌, ◌*◌, ◌<◌, ◌≤◌, ◌≡◌, Bool, true, false, List, length}
use Rattle.parts.specs.Setup.{within_limits, all_words}
use Rattle.parts.specs.declared.setup.Setup.{Setup}
use Rattle.defects.specs.Place.{field_octets, data_fields}
use Rattle.defects.specs.Sectors.{last_cylinder}
use Rattle.defects.specs.declared.source.Source.{Source}
use Rattle.defects.specs.declared.source.Source.TheVariants.{Octets, Sectors}

-- The map's octets: a string, or those of the last cylinder in a drive's sector words.
abbrev pub string_in : Setup → Source → List ℕ
string_in s (Octets octets) = octets.now
string_in s (Sectors sectors) = last_cylinder s sectors.now

-- Nothing may follow it.
abbrev pub is_alone : Source → Bool
is_alone (Octets octets) = true
is_alone (Sectors sectors) = false

-- What it needs: of sector words all, of octets none.
abbrev pub HasWords : Setup → Source → Type 0
HasWords s (Octets octets) = Unit
HasWords s (Sectors sectors) = all_words s ≤ length sectors.now

-- A drive within its limits, whose sector words are all there.
pub record Readable (s : Setup) (source : Source) : Type 0 where
  pub limits : within_limits s ≡ true
  pub words : HasWords s source

-- Data field k is there, whole.
pub record Loadable (s : Setup) (source : Source) (k : ℕ) : Type 0 where
  pub readable : Readable s source
  pub inside : k < data_fields s
  pub whole : k * field_octets s + field_octets s ≤ length (string_in s source)
