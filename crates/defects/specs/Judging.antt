-- The tests of one data field, in the order of its octets. `start` is the offset of its octet 0.
use Rattle.std.specs.Prelude.{ℕ, ◌+◌, ◌-◌, ◌*◌, Bool, not, ◌&&◌, ◌||◌, List, [], ◌∷◌, ◌++◌, eqb, leb, length, get_or, take}
use Rattle.laws.specs.Pick.{pick}
use Rattle.parts.specs.declared.setup.Setup.{Setup}
use Rattle.defects.specs.Offence.{Test, ◌at◌when◌, tests_over}
use Rattle.defects.specs.Crc.{crc_of}
use Rattle.defects.specs.Defect.{is_out_of_sequence, behind}
use Rattle.defects.specs.Field.{front_of, is_last, is_flagged, has_stray_flags, crc_in, defects_in}
use Rattle.defects.specs.declared.defect.Defect.{Defect}
use Rattle.defects.specs.declared.front.Front.{Front}
use Rattle.defects.specs.declared.walk.Walk.{Walk}

-- 19: a flag of a format that section 13 does not give, or bit 7, "Last data field of Defect Map", not set exactly in the last set.
unfoldable pub has_wrong_flags : ℕ → Bool → Bool
has_wrong_flags flags last = has_stray_flags flags || (last && not (is_last flags)) || (not last && is_last flags)

-- Octets 2 to D of the first data field: the map has a set, this is set 0, and the storage track is in the drive.
unfoldable pub opening_tests : Setup → ℕ → Front → List Test
opening_tests s start front =
    19 at start + 2 when has_wrong_flags front.flags (eqb front.sets 1)
    ∷ 20 at start + 3 when not (eqb front.copy 0)
    ∷ 21 at start + 4 when eqb front.sets 0
    ∷ 22 at start + 6 when not (eqb front.set 0)
    ∷ 23 at start + 8 when leb s.cylinders front.cylinder
    ∷ 23 at start + 12 when leb s.heads front.head
    ∷ []

-- The same octets of a later set: they are as in the sets before it, and this is the next set.
unfoldable pub later_tests : Walk → ℕ → Front → List Test
later_tests w start front =
    19 at start + 2 when has_wrong_flags front.flags (eqb w.sets (w.set + 1))
    ∷ 20 at start + 3 when not (eqb front.copy 0)
    ∷ 21 at start + 4 when not (eqb front.sets w.sets)
    ∷ 22 at start + 6 when not (eqb front.set w.set)
    ∷ 21 at start + 8 when not (eqb front.cylinder w.cylinder)
    ∷ 21 at start + 12 when not (eqb front.head w.head)
    ∷ []

-- The octets in front of the entries of a data field of so many octets.
unfoldable pub front_tests : Setup → Walk → ℕ → ℕ → Front → List Test
front_tests s w start size front =
    18 at start when not (eqb front.count (size - 2)) ∷ pick (eqb w.set 0) (opening_tests s start front) (later_tests w start front)

-- An entry at an offset: it is in the drive, and in sequence unless the data field is flagged.
unfoldable pub entry_tests : Setup → Bool → ℕ → ℕ → Defect → List Test
entry_tests s flagged least offset d =
    23 at offset when leb s.cylinders d.cylinder
    ∷ 24 at offset when (not flagged && is_out_of_sequence least d)
    ∷ 23 at offset + 4 when leb s.heads d.head
    ∷ []

-- The entries, one behind the other.
unfoldable pub list_tests : Setup → Bool → ℕ → ℕ → List Defect → List Test
list_tests s flagged least offset [] = []
list_tests s flagged least offset (d ∷ defects) = entry_tests s flagged least offset d ++ list_tests s flagged (behind least d) (offset + 12) defects

-- "(M+1)-(n-2) Zero (if any octets not filled by defect entries)"
abbrev pub zero_test : ℕ → List ℕ → ℕ → Test
zero_test start field i = 25 at start + i when not (eqb (get_or field i 0) 0)

-- "Each data field in a set is identical to the other two."
abbrev pub same_test : ℕ → List ℕ → List ℕ → ℕ → Test
same_test start field original i = 27 at start + i when not (eqb (get_or field i 0) (get_or original i 0))

-- "It is the controllers responsibility to check the CRC."
abbrev pub crc_tests : ℕ → List ℕ → List Test
crc_tests start field = 26 at start + (length field - 2) when not (eqb (crc_in field) (crc_of (take (length field - 2) field))) ∷ []

-- Behind so many entries, up to the CRC.
abbrev pub padding_tests : ℕ → List ℕ → ℕ → List Test
padding_tests start field count = tests_over (zero_test start field) (14 + 12 * count) (length field - 2 - (14 + 12 * count))

-- Copy 0 of a set. `least` is the least address that is higher than all of the entries before it.
abbrev pub original_tests : Setup → Walk → ℕ → ℕ → List ℕ → List Test
original_tests s w least start field =
    let front = front_of field in
    let defects = defects_in field in
    front_tests s w start (length field) front
    ++ list_tests s (is_flagged front.flags) least (start + 14) defects
    ++ padding_tests start field (length defects)
    ++ crc_tests start field

-- Copies 1 and 2: as copy 0, but for octet 3 and the CRC.
abbrev pub copy_tests : Walk → ℕ → List ℕ → List ℕ → List Test
copy_tests w start original field =
    tests_over (same_test start field original) 0 3
    ++ 20 at start + 3 when not (eqb (get_or field 3 0) w.copy)
    ∷ tests_over (same_test start field original) 4 (length field - 6)
    ++ crc_tests start field

abbrev pub field_tests : Setup → Walk → ℕ → ℕ → List ℕ → List ℕ → List Test
field_tests s w least start original field = pick (eqb w.copy 0) (original_tests s w least start field) (copy_tests w start original field)
