-- "read off the last cylinder": the data fields of a map in a drive's sector words, and a map put there.
use Rattle.std.specs.Prelude.{ℕ, zero, suc, ◌+◌, ◌*◌, ◌/◌, ◌%◌, ◌≡◌, false, not, ◌||◌, List, [], ◌∷◌, ◌++◌, Result, ltb, length, take, drop, ⊤}
use Rattle.std.proofs.Math.Option.{Option}
use Rattle.laws.specs.Lists.{written_over, written_at}
use Rattle.laws.specs.Rows.{Row, first, ◌when◌, unless_refused}
use Rattle.parts.specs.Setup.{within_limits, all_words, sector_start}
use Rattle.parts.specs.declared.setup.Setup.{Setup}
use Rattle.refusals.specs.Refusal.{refusal_in}
use Rattle.refusals.specs.declared.refusal.Refusal.{Refusal}
use Rattle.defects.specs.Offence.{Test, ◌at◌when◌, Found, first_of, found_on_paper, offence_or, unless_found}
use Rattle.defects.specs.Defect.{list_octets}
use Rattle.defects.specs.Place.{field_octets, data_fields, place_of}
use Rattle.defects.specs.Walk.{field_at, map_tests}
use Rattle.defects.specs.Decoding.{defects_of, map_of}
use Rattle.defects.specs.Encoding.{defects_listed, sets_for, is_malformed, map_octets}
use Rattle.defects.specs.declared.offence.Offence.{Offence}
use Rattle.defects.specs.declared.decoding.MapRead.{MapRead}

-- ---- words and octets

-- "Even numbered octets are transmitted on BUS A and odd numbered octets are transmitted on BUS B": the high octet of a word is the first.
abbrev pub word_octets : List ℕ → List ℕ
word_octets [] = []
word_octets (word ∷ words) = word / 256 ∷ word % 256 ∷ word_octets words

-- The same words, from the octets.
abbrev pub octet_words : List ℕ → List ℕ
octet_words [] = []
octet_words (high ∷ []) = []
octet_words (high ∷ low ∷ octets) = (high * 256 + low) ∷ octet_words octets

-- ---- the last cylinder

-- Where data field k begins in the sector words: behind the header of its sector.
unfoldable pub field_start : Setup → ℕ → ℕ
field_start s k = sector_start s (place_of s k) + s.header

-- Its octets.
unfoldable pub sector_field : Setup → List ℕ → ℕ → List ℕ
sector_field s sectors k = word_octets (take s.field1 (drop (field_start s k) sectors))

-- The octets of so many data fields from data field k on, and those of all that the last cylinder has.
unfoldable pub sector_fields : Setup → List ℕ → ℕ → ℕ → List ℕ
sector_fields s sectors k zero = []
sector_fields s sectors k (suc count) = sector_field s sectors k ++ sector_fields s sectors (suc k) count

abbrev pub last_cylinder : Setup → List ℕ → List ℕ
last_cylinder s sectors = sector_fields s sectors 0 (data_fields s)

-- ---- a map read off it

-- 9 and 10 as in a decoding, 10 for the sector words too; then the map's own. What stands behind the map is no offence.
abbrev pub read_tests : Setup → List ℕ → List ℕ → List Test
read_tests s sectors lent =
    9 at 0 when not (within_limits s)
    ∷ 10 at 0 when (ltb (length sectors) (all_words s) || ltb (length lent) (data_fields s * field_octets s / 3))
    ∷ map_tests false s (last_cylinder s sectors)

abbrev pub read_offence : Setup → List ℕ → List ℕ → Option Found
read_offence s sectors lent = first_of (read_tests s sectors lent)

abbrev pub read_in : Setup → List ℕ → List ℕ → Result MapRead Found
read_in s sectors lent = offence_or (read_offence s sectors lent) (map_of s (last_cylinder s sectors))

-- The promise of `read_map`.
pub record ReadMap (s : Setup) (sectors before after : List ℕ) (r : Result MapRead Offence) : Type 0 where
  pub answer : found_on_paper r ≡ read_in s sectors before
  pub slice : after ≡ unless_found (read_offence s sectors before) before (written_over before (list_octets (defects_of s (last_cylinder s sectors))))

-- ---- a map put there

-- The sector words with so many data fields of a string in their places, from data field k on.
unfoldable pub stored_fields : Setup → List ℕ → List ℕ → ℕ → ℕ → List ℕ
stored_fields s octets sectors k zero = sectors
stored_fields s octets sectors k (suc count) = stored_fields s octets (written_at sectors (field_start s k) (octet_words (field_at s octets k))) (suc k) count

-- 9, 10 for the sector words, 8 as in an encoding.
abbrev pub write_rows : Setup → ℕ → ℕ → List ℕ → List ℕ → List Row
write_rows s cylinder head defects sectors =
    9 when not (within_limits s)
    ∷ 10 when ltb (length sectors) (all_words s)
    ∷ 8 when is_malformed s cylinder head defects
    ∷ []

abbrev pub write_refusal : Setup → ℕ → ℕ → List ℕ → List ℕ → ℕ
write_refusal s cylinder head defects sectors = first (write_rows s cylinder head defects sectors)

-- The promise of `write_map`.
pub record WroteMap (s : Setup) (cylinder head : ℕ) (defects before after : List ℕ) (r : Result ⊤ Refusal) : Type 0 where
  pub answer : refusal_in r ≡ write_refusal s cylinder head defects before
  pub sectors : after
      ≡ unless_refused (write_refusal s cylinder head defects before) before
      (stored_fields s (map_octets s (record { cylinder = cylinder; head = head; defects = defects_listed defects })) before 0 (3 * sets_for s (length defects / 12)))
