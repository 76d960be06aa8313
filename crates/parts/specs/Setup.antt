-- "Drive set-up": the limits, the sizes, and where a sector's words are.
use Rattle.std.specs.Prelude.{ℕ, ◌+◌, ◌*◌, Bool, not, ◌&&◌, ◌||◌, List, ltb, leb, eqb, take, drop}
use Rattle.laws.specs.Pick.{pick}
use Rattle.parts.specs.declared.setup.Setup.{Setup}
use Rattle.parts.specs.declared.setup.Place.{Place}

abbrev pub between : ℕ → ℕ → ℕ → Bool
between low n high = leb low n && leb n high

-- "Cylinders 1 to 4,096, heads 1 to 32, sectors per track 1 to 256; per sector a header of 0 to 8 words, field 1 of 1 to 1,024 words,
-- field 2 of 0 to 1,024 words; address 0 to 7."
unfoldable pub within_limits : Setup → Bool
within_limits s =
    between 1 s.cylinders 4096
    && between 1 s.heads 32
    && between 1 s.sectors 256
    && between 0 s.header 8
    && between 1 s.field1 1024
    && between 0 s.field2 1024
    && between 0 s.address 7

-- "A sector's words are header, field 1, field 2, in that order; sectors follow by sector, then head, then cylinder."
abbrev pub sector_words : Setup → ℕ
sector_words s = s.header + s.field1 + s.field2

unfoldable pub all_words : Setup → ℕ
all_words s = s.cylinders * s.heads * s.sectors * sector_words s

-- "The sector slice must hold every sector; staging must hold one sector": so many words do not, or the set-up is outside its limits.
unfoldable pub lacks_room : Setup → ℕ → ℕ → Bool
lacks_room s sectors staging = not (within_limits s) || ltb sectors (all_words s) || ltb staging (sector_words s)

unfoldable pub sector_number : Setup → Place → ℕ
sector_number s p = (p.cylinder * s.heads + p.head) * s.sectors + p.sector

unfoldable pub sector_start : Setup → Place → ℕ
sector_start s p = sector_number s p * sector_words s

abbrev pub sector_at : Setup → Place → List ℕ → List ℕ
sector_at s p sectors = take (sector_words s) (drop (sector_start s p) sectors)

-- A place in the drive.
unfoldable pub is_place : Setup → Place → Bool
is_place s p = ltb p.cylinder s.cylinders && ltb p.head s.heads && ltb p.sector s.sectors

-- "target FFFF hex (none, and never outside the drive)"
abbrev pub no_target : ℕ
no_target = 0xFFFF

unfoldable pub is_target : Setup → ℕ → Bool
is_target s target = eqb target no_target || ltb target s.sectors

-- "plus one, 0 after the last": the next head, the next sector.
unfoldable pub following : ℕ → ℕ → ℕ
following n count = pick (ltb (n + 1) count) (n + 1) 0
