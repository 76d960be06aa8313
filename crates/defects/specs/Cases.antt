-- Worked maps, and what decoding and encoding make of them. Each data field is written as one long number, its octets in hex.
use Rattle.std.specs.Prelude.{ℕ, ◌≡◌, List, [], ◌∷◌, ◌++◌, Result, Ok, Err, replicate}
use Rattle.laws.specs.Octets.{octets_of}
use Rattle.parts.specs.declared.setup.Setup.{Setup}
use Rattle.defects.specs.Crc.{crc_of}
use Rattle.defects.specs.Place.{place_of, place_refusal}
use Rattle.defects.specs.Offence.{Found}
use Rattle.defects.specs.Decoding.{map_told, decoded_in, defects_of}
use Rattle.defects.specs.Encoding.{Value, map_octets, encode_refusal}
use Rattle.defects.specs.declared.defect.Defect.{Defect}
use Rattle.defects.specs.declared.decoding.MapRead.{MapRead}

-- Cylinders, heads, sectors per track, and field 1's words.
abbrev pub drive : ℕ → ℕ → ℕ → ℕ → Setup
drive cylinders heads sectors field1 = record { cylinders = cylinders; heads = heads; sectors = sectors; header = 1; field1 = field1; field2 = 0; address = 3 }

-- Six data fields: of 16 octets, with no room for entries, and of 28, with room for one.
abbrev pub narrow : Setup
narrow = drive 2 2 3 8

abbrev pub small : Setup
small = drive 2 2 3 14

-- Twelve data fields of 42 octets, with room for two entries and two octets over.
abbrev pub wide : Setup
wide = drive 10 2 6 21

abbrev pub defect : ℕ → ℕ → ℕ → ℕ → Defect
defect cylinder head offset length = record { cylinder = cylinder; head = head; offset = offset; length = length }

abbrev pub value : ℕ → ℕ → List Defect → Value
value cylinder head defects = record { cylinder = cylinder; head = head; defects = defects }

-- Decoded with room for 96 octets of defects.
abbrev pub decoded : Setup → List ℕ → Result MapRead Found
decoded s octets = decoded_in s octets (replicate 96 0xFF)

abbrev pub map : ℕ → ℕ → ℕ → Result MapRead Found
map count cylinder head = Ok (map_told count cylinder head)

abbrev pub refused : ℕ → ℕ → Result MapRead Found
refused n offset = Err (record { number = n; offset = offset })

-- No defects, the smallest data field.
abbrev pub no_defects : List ℕ
no_defects =
    octets_of 16 0x000e80000001000000000001000044bb
    ++ octets_of 16 0x000e800100010000000000010000d1f8
    ++ octets_of 16 0x000e800200010000000000010000ee38

-- One defect.
abbrev pub one_defect : List ℕ
one_defect =
    octets_of 28 0x001a8000000100000000000100000000000100010000012c000546f2
    ++ octets_of 28 0x001a8001000100000000000100000000000100010000012c00055094
    ++ octets_of 28 0x001a8002000100000000000100000000000100010000012c00056a3e

-- Two sets, the second out of sequence: bit 3.
abbrev pub out_of_sequence : List ℕ
out_of_sequence =
    octets_of 28 0x001a000000020000000000010000000000010000000000070009604f
    ++ octets_of 28 0x001a0001000200000000000100000000000100000000000700097629
    ++ octets_of 28 0x001a0002000200000000000100000000000100000000000700094c83
    ++ octets_of 28 0x001a8800000200010000000100000000000000010000012c00056c73
    ++ octets_of 28 0x001a8801000200010000000100000000000000010000012c00057a15
    ++ octets_of 28 0x001a8802000200010000000100000000000000010000012c000540bf

-- An ignored data field before the second copy.
abbrev pub one_ignored : List ℕ
one_ignored =
    octets_of 16 0x000e80000001000000000001000044bb
    ++ octets_of 16 0xdeadbeffdeadbeefdeadbeefdeadbeef
    ++ octets_of 16 0x000e800100010000000000010000d1f8
    ++ octets_of 16 0x000e800200010000000000010000ee38

-- A set that is not full, and another.
abbrev pub not_full : List ℕ
not_full =
    octets_of 42 0x002800000002000000000009000000000003000100000014000b00000000000000000000000000004e70
    ++ octets_of 42 0x002800010002000000000009000000000003000100000014000b0000000000000000000000000000c903
    ++ octets_of 42 0x002800020002000000000009000000000003000100000014000b0000000000000000000000000000c093
    ++ octets_of 42 0x00288000000200010000000900000000000400000000000000010000000000000000000000000000ae81
    ++ octets_of 42 0x0028800100020001000000090000000000040000000000000001000000000000000000000000000029f2
    ++ octets_of 42 0x002880020002000100000009000000000004000000000000000100000000000000000000000000002062

-- Bit 3 without need.
abbrev pub flagged_without_need : List ℕ
flagged_without_need =
    octets_of 28 0x001a8800000100000000000100000000000100010000012c0005f55b
    ++ octets_of 28 0x001a8801000100000000000100000000000100010000012c0005e33d
    ++ octets_of 28 0x001a8802000100000000000100000000000100010000012c0005d997

-- Ignored data fields until the last cylinder is full.
abbrev pub all_ignored : List ℕ
all_ignored =
    octets_of 16 0xdeadbeffdeadbeefdeadbeefdeadbeef
    ++ octets_of 16 0xdeadbeffdeadbeefdeadbeefdeadbeef
    ++ octets_of 16 0xdeadbeffdeadbeefdeadbeefdeadbeef
    ++ octets_of 16 0xdeadbeffdeadbeefdeadbeefdeadbeef
    ++ octets_of 16 0xdeadbeffdeadbeefdeadbeefdeadbeef
    ++ octets_of 16 0xdeadbeffdeadbeefdeadbeefdeadbeef
    ++ octets_of 16 0xdeadbeffdeadbeefdeadbeefdeadbeef

-- The count is not 14.
abbrev pub count_wrong : List ℕ
count_wrong =
    octets_of 16 0x000d800000010000000000010000c43b
    ++ octets_of 16 0x000e800100010000000000010000d1f8
    ++ octets_of 16 0x000e800200010000000000010000ee38

-- Bit 6: continues on the next lower cylinder.
abbrev pub continues : List ℕ
continues =
    octets_of 16 0x000ec00000010000000000010000db58
    ++ octets_of 16 0x000e800100010000000000010000d1f8
    ++ octets_of 16 0x000e800200010000000000010000ee38

-- The second copy says 03.
abbrev pub copy_three : List ℕ
copy_three =
    octets_of 16 0x000e80000001000000000001000044bb
    ++ octets_of 16 0x000e8003000100000000000100007b7b
    ++ octets_of 16 0x000e800200010000000000010000ee38

-- A defect on cylinder 2 of 2.
abbrev pub behind_the_last_cylinder : List ℕ
behind_the_last_cylinder =
    octets_of 28 0x001a8000000100000000000100000000000200010000012c00054c52
    ++ octets_of 28 0x001a8001000100000000000100000000000100010000012c00055094
    ++ octets_of 28 0x001a8002000100000000000100000000000100010000012c00056a3e

-- The second set below the first, bit 3 clear.
abbrev pub order_broken : List ℕ
order_broken =
    octets_of 28 0x001a000000020000000000010000000000010000000000070009604f
    ++ octets_of 28 0x001a0001000200000000000100000000000100000000000700097629
    ++ octets_of 28 0x001a0002000200000000000100000000000100000000000700094c83
    ++ octets_of 28 0x001a8000000200010000000100000000000000010000012c0005dfda
    ++ octets_of 28 0x001a8801000200010000000100000000000000010000012c00057a15
    ++ octets_of 28 0x001a8802000200010000000100000000000000010000012c000540bf

-- An octet behind the last entry.
abbrev pub octet_in_the_padding : List ℕ
octet_in_the_padding =
    octets_of 42 0x002880000001000000000009000000000003000100000014000b0000000000000000000000000001445e
    ++ octets_of 42 0x002880010001000000000009000000000003000100000014000b00000000000000000000000000004328
    ++ octets_of 42 0x002880020001000000000009000000000003000100000014000b00000000000000000000000000004ab8

-- One bit of the CRC.
abbrev pub bit_of_the_crc : List ℕ
bit_of_the_crc =
    octets_of 16 0x000e80000001000000000001000044ba
    ++ octets_of 16 0x000e800100010000000000010000d1f8
    ++ octets_of 16 0x000e800200010000000000010000ee38

-- The third copy differs in octet 13.
abbrev pub third_copy_differs : List ℕ
third_copy_differs =
    octets_of 16 0x000e80000001000000000001000044bb
    ++ octets_of 16 0x000e800100010000000000010000d1f8
    ++ octets_of 16 0x000e8002000100000000000100016e3d

-- A fourth data field.
abbrev pub fourth_data_field : List ℕ
fourth_data_field =
    octets_of 16 0x000e80000001000000000001000044bb
    ++ octets_of 16 0x000e800100010000000000010000d1f8
    ++ octets_of 16 0x000e800200010000000000010000ee38
    ++ octets_of 16 0x000e80000001000000000001000044bb

pub record Cases : Type 0 where
  -- The nine digits.
  pub check_value : crc_of (octets_of 9 0x313233343536373839) ≡ 0xFEE8
  -- ---- decoded
  pub no_defects_lem : decoded narrow no_defects ≡ map 0 1 0
  pub one_defect_lem : decoded small one_defect ≡ map 1 1 0
  pub one_defect_lists : defects_of small one_defect ≡ (defect 1 1 300 5 ∷ [])
  pub out_of_sequence_lem : decoded small out_of_sequence ≡ map 2 1 0
  pub out_of_sequence_lists : defects_of small out_of_sequence ≡ (defect 1 0 7 9 ∷ defect 0 1 300 5 ∷ [])
  pub one_ignored_lem : decoded narrow one_ignored ≡ map 0 1 0
  pub not_full_lem : decoded wide not_full ≡ map 2 9 0
  pub not_full_lists : defects_of wide not_full ≡ (defect 3 1 20 11 ∷ defect 4 0 0 1 ∷ [])
  pub flagged_without_need_lem : decoded small flagged_without_need ≡ map 1 1 0
  pub flagged_without_need_lists : defects_of small flagged_without_need ≡ (defect 1 1 300 5 ∷ [])
  pub all_ignored_lem : decoded narrow all_ignored ≡ refused 16 96
  pub count_wrong_lem : decoded narrow count_wrong ≡ refused 18 0
  pub continues : decoded narrow continues ≡ refused 19 2
  pub copy_three_lem : decoded narrow copy_three ≡ refused 20 19
  pub behind_the_last_cylinder_lem : decoded small behind_the_last_cylinder ≡ refused 23 14
  pub order_broken_lem : decoded small order_broken ≡ refused 24 98
  pub octet_in_the_padding_lem : decoded wide octet_in_the_padding ≡ refused 25 39
  pub bit_of_the_crc_lem : decoded narrow bit_of_the_crc ≡ refused 26 14
  pub third_copy_differs_lem : decoded narrow third_copy_differs ≡ refused 27 45
  pub fourth_data_field_lem : decoded narrow fourth_data_field ≡ refused 28 48
  -- A data field cut short is not judged: the first octets of one are 17 where it begins.
  pub cut_short : decoded narrow (octets_of 7 0x000e8000000100) ≡ refused 17 0
  -- No data field has room for a map on a drive whose field 1 has two words.
  pub no_room : decoded (drive 2 2 3 2) no_defects ≡ refused 16 0
  -- ---- encoded
  pub no_defects_anew : map_octets narrow (value 1 0 []) ≡ no_defects
  pub one_defect_anew : map_octets small (value 1 0 (defect 1 1 300 5 ∷ [])) ≡ one_defect
  pub out_of_sequence_anew : map_octets small (value 1 0 (defect 1 0 7 9 ∷ defect 0 1 300 5 ∷ [])) ≡ out_of_sequence
  pub not_full_anew : map_octets wide (value 9 0 (defect 3 1 20 11 ∷ defect 4 0 0 1 ∷ []))
      ≡ octets_of 42 0x002880000001000000000009000000000003000100000014000b0000000400000000000000010000914f
      ++ octets_of 42 0x002880010001000000000009000000000003000100000014000b0000000400000000000000010000163c
      ++ octets_of 42 0x002880020001000000000009000000000003000100000014000b00000004000000000000000100001fac
  -- Three sets do not fit six data fields, and a defect does not fit data fields without room for entries.
  pub three_sets : encode_refusal small 1 0 (octets_of 36 0x0000000100010000012c00050000000100010000012c00050000000100010000012c0005) 252 ≡ 8
  pub no_entries : encode_refusal narrow 1 0 (octets_of 12 0x0000000100010000012c0005) 48 ≡ 8
  -- ---- places
  pub first_place : place_of small 0 ≡ record { cylinder = 1; head = 1; sector = 0 }
  pub next_track : place_of small 3 ≡ record { cylinder = 1; head = 0; sector = 0 }
  pub last_place : place_of (drive 4096 32 256 256) 8191 ≡ record { cylinder = 4095; head = 0; sector = 255 }
  pub none_left : place_refusal (drive 4096 32 256 256) 8192 ≡ 16
