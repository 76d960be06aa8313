-- Wrong answers, two and more for each call: what a careless programmer would get, and no promise allows.
use Rattle.std.specs.Prelude.{ℕ, List, [], ◌∷◌, ◌++◌, Ok, Err, replicate, set}
use Rattle.laws.specs.Octets.{octets_of}
use Rattle.defects.specs.Defect.{DecodedDefect, EncodedDefect}
use Rattle.defects.specs.Place.{Placed}
use Rattle.defects.specs.Decoding.{map_told, DecodedMap}
use Rattle.defects.specs.Encoding.{EncodedMap}
use Rattle.defects.specs.Sectors.{stored_fields, ReadMap, WroteMap}
use Rattle.defects.specs.Cases.{narrow, small, no_defects, one_defect, behind_the_last_cylinder, order_broken, copy_three}
use Rattle.refusals.specs.declared.refusal.Refusal.TheVariants.{SliceTooShort, WrongCopy, OutOfSequence, BehindTheEnd}
use Rattle.defects.specs.declared.defect.Defect.{Defect}

-- A lent slice of so many octets FF.
abbrev pub lent : ℕ → List ℕ
lent size = replicate size 0xFF

-- A defect of 5 bits on cylinder 1, head 1, 300 octets from Index, but for the cylinder.
abbrev pub on_cylinder : ℕ → Defect
on_cylinder cylinder = record { cylinder = cylinder; head = 1; offset = 300; length = 5 }

-- Its octets but for the last, and all.
abbrev pub all_but_last : List ℕ
all_but_last = 0x00 ∷ 0x00 ∷ 0x00 ∷ 0x01 ∷ 0x00 ∷ 0x01 ∷ 0x00 ∷ 0x00 ∷ 0x01 ∷ 0x2C ∷ 0x00 ∷ []

abbrev pub its_octets : List ℕ
its_octets = all_but_last ++ (0x05 ∷ [])

-- The map without defects, with the CRC of one octet less in each data field.
abbrev pub crc_of_one_less : List ℕ
crc_of_one_less =
    octets_of 16 0x000e80000001000000000001000034c4
    ++ octets_of 16 0x000e800100010000000000010000d4d3
    ++ octets_of 16 0x000e80020001000000000001000074ef

-- The same defect twice, and its map without bit 3 in the second set.
abbrev pub twice : List ℕ
twice = octets_of 12 0x0000000100010000012c0005 ++ octets_of 12 0x0000000100010000012c0005

abbrev pub without_its_bit : List ℕ
without_its_bit =
    octets_of 28 0x001a0000000200000000000100000000000100010000012c0005776b
    ++ octets_of 28 0x001a0001000200000000000100000000000100010000012c0005610d
    ++ octets_of 28 0x001a0002000200000000000100000000000100010000012c00055ba7
    ++ octets_of 28 0x001a8000000200010000000100000000000100010000012c000559b9
    ++ octets_of 28 0x001a8001000200010000000100000000000100010000012c00054fdf
    ++ octets_of 28 0x001a8002000200010000000100000000000100010000012c00057575

-- The sector words of the narrow drive, 12 sectors of a header word and 8 words, all zero; with the map without defects where it belongs; and
-- with that map on the first track of the last cylinder.
abbrev pub blank : List ℕ
blank = replicate 108 0

abbrev pub on_the_last_track : List ℕ
on_the_last_track = stored_fields narrow no_defects blank 0 3

abbrev pub on_the_first_track : List ℕ
on_the_first_track = stored_fields narrow (replicate 48 0 ++ no_defects) blank 3 3

pub record WrongAnswers : Type 0 where
  -- ---- decode_defect
  -- The cylinder is high first: 00 00 00 01 is 1.
  pub cylinder_low_first : DecodedDefect its_octets (Ok (on_cylinder 0x0100_0000)) → ⊥
  -- A defect and an octet more are long enough.
  pub ten_for_13_octets : DecodedDefect (lent 13) (Err SliceTooShort) → ⊥
  -- ---- encode_defect
  -- Eleven octets are too few: 10, and nothing is written.
  pub written_into_11 : EncodedDefect (on_cylinder 1) (lent 11) all_but_last (Ok tt) → ⊥
  -- The octet behind the defect stays as it was.
  pub octet_behind_cleared : EncodedDefect (on_cylinder 1) (lent 13) (its_octets ++ (0x00 ∷ [])) (Ok tt) → ⊥
  -- ---- map_place
  -- The map starts on the last track: head 1.
  pub first_track_taken : Placed small 0 (Ok (record { cylinder = 1; head = 0; sector = 0 })) → ⊥
  -- The map is on the last cylinder alone: 16.
  pub cylinder_below_taken : Placed small 6 (Ok (record { cylinder = 0; head = 1; sector = 0 })) → ⊥
  -- ---- decode_map
  -- The second set lies below the first, and its bit 3 is clear: 24.
  pub order_broken_taken_lem : (after : List ℕ) → DecodedMap small order_broken (lent 56) after (Ok (map_told 2 1 0)) → ⊥
  -- The CRC is that of all octets before it: 26.
  pub crc_of_one_less_taken_lem : (after : List ℕ) → DecodedMap narrow crc_of_one_less (lent 16) after (Ok (map_told 0 1 0)) → ⊥
  -- The drive has cylinders 0 and 1: 23.
  pub cylinder_behind_the_last_taken_lem : (after : List ℕ) → DecodedMap small behind_the_last_cylinder (lent 28) after (Ok (map_told 1 1 0)) → ⊥
  -- The second copy says 03: the offset is that of its octet 3, in the map's octets.
  pub offset_within_the_data_field : (after : List ℕ) → DecodedMap narrow copy_three (lent 16) after (Err (record { refusal = WrongCopy; offset = 3 })) → ⊥
  -- A refusal leaves the lent octets as they were.
  pub listed_before_refused : DecodedMap small order_broken (lent 56) (octets_of 12 0x000000010000000000070009 ++ lent 44) (Err (record { refusal = OutOfSequence; offset = 98 })) → ⊥
  -- Each set is listed once.
  pub listed_three_times : (after : List ℕ) → DecodedMap small one_defect (lent 28) after (Ok (map_told 3 1 0)) → ⊥
  -- ---- encode_map
  -- An entry at the address of one before it is out of sequence: bit 3.
  pub bit_forgotten : EncodedMap small 1 0 twice (lent 168) without_its_bit (Ok 168) → ⊥
  -- Two data fields and 16 octets more are too few: 10.
  pub two_copies_fit : (after : List ℕ) → EncodedMap narrow 1 0 [] (lent 47) after (Ok 48) → ⊥
  -- ---- read_map
  -- The map starts on the last track of the cylinder.
  pub first_track_read_lem : (after : List ℕ) → ReadMap narrow on_the_first_track (lent 32) after (Ok (map_told 0 1 0)) → ⊥
  -- What stands behind the map is no offence.
  pub rest_of_the_cylinder_judged_lem : (after : List ℕ) → ReadMap narrow on_the_last_track (lent 32) after (Err (record { refusal = BehindTheEnd; offset = 48 })) → ⊥
  -- ---- write_map
  pub first_track_written_lem : WroteMap narrow 1 0 [] blank on_the_first_track (Ok tt) → ⊥
  -- The header stays: word 81 is that of the last track's first sector.
  pub header_written_over_lem : WroteMap narrow 1 0 [] blank (set on_the_last_track 81 0x000E) (Ok tt) → ⊥
