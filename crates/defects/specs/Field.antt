-- "The format of each data field is shown below": what stands where in a data field.
use Rattle.std.specs.Prelude.{ℕ, zero, suc, ◌+◌, ◌-◌, ◌/◌, ◌%◌, Bool, not, ◌||◌, List, [], ◌∷◌, eqb, length, get_or}
use Rattle.laws.specs.Pick.{pick}
use Rattle.laws.specs.Octets.{bit}
use Rattle.defects.specs.Defect.{number_at, defect_at, is_blank}
use Rattle.defects.specs.declared.defect.Defect.{Defect}
use Rattle.defects.specs.declared.front.Front.{Front}

-- "0-1 Number of octets following", "2 Flag Byte", "3 Number of this sector within a set", "4-5 Number of Sets in Defect Map",
-- "6-7 Number of this set in the Defect Map", "8-B Cylinder Address of Format Specification Storage", "C-D Head Address of Format
-- Specification Storage"
unfoldable pub front_of : List ℕ → Front
front_of field =
    record {
      count = number_at 2 0 field;
      flags = get_or field 2 0;
      copy = get_or field 3 0;
      sets = number_at 2 4 field;
      set = number_at 2 6 field;
      cylinder = number_at 4 8 field;
      head = number_at 2 12 field;
    }

-- "7 Last data field of Defect Map"
abbrev pub is_last : ℕ → Bool
is_last flags = bit 7 flags

-- "6 Defect Map continues on next lower cylinder", "5 Sector Defect list used", "4 Defect Fields option used", "2-0 Reserved"
abbrev pub has_stray_flags : ℕ → Bool
has_stray_flags flags = not (eqb (flags / 16 % 8) 0) || not (eqb (flags % 8) 0)

-- "3 Defect Entries in this sector out of sequence"
abbrev pub is_flagged : ℕ → Bool
is_flagged flags = bit 3 flags

-- "FF = Ignore"
abbrev pub is_ignored : List ℕ → Bool
is_ignored field = eqb (get_or field 3 0) 0xFF

-- "(n-1)-n CRC-16"
abbrev pub crc_in : List ℕ → ℕ
crc_in field = number_at 2 (length field - 2) field

-- How many entries of 12 octets fit between the 14 octets in front and the 2 of the CRC: "cannot be split".
abbrev pub slots : ℕ → ℕ
slots octets = (octets - 16) / 12

-- The entries from an index on, in so many slots: they end before the first slot of twelve zeros.
unfoldable pub defects_from : List ℕ → ℕ → ℕ → List Defect
defects_from field at zero = []
defects_from field at (suc left) = pick (is_blank (defect_at at field)) [] (defect_at at field ∷ defects_from field (at + 12) left)

-- "E-11 Cylinder Address of Defect": the first entry stands at E.
abbrev pub defects_in : List ℕ → List Defect
defects_in field = defects_from field 14 (slots (length field))
