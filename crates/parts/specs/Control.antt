-- "Data controls", and the codes of commands and responses: what the octet of kind 3 asks for, and the words that pass under it.
use Rattle.std.specs.Prelude.{ℕ, ◌+◌, ◌/◌, ◌%◌, ◌≡◌, Bool, true, false, not, ◌||◌, List, [], ◌++◌, ltb, leb, eqb, take, drop}
use Rattle.laws.specs.Pick.{pick}
use Rattle.laws.specs.Lists.{one_of}
use Rattle.laws.specs.Octets.{bit}
use Rattle.parts.specs.Setup.{between}
use Rattle.parts.specs.Command.{commands, responses, codes_acting_on_more, code_of, parameter_words}
use Rattle.parts.specs.declared.setup.Setup.{Setup}
use Rattle.parts.specs.declared.control.Control.{Control}
use Rattle.parts.specs.declared.control.Control.TheVariants.{Write, Read, Command, Response, StepHead, Reserved, Unsupported, Invalid}

-- "Accepted: 84–8F, 94–9F, 90, C0–CF, D1–DF." "90 is Step Head .. and D0 is reserved."
-- "D0 and controls outside 80–9F and C0–DF: bit 7." "80–83 and 91–93: bit 5." Below 80 stand commands and responses. In the order of the codes:
unfoldable pub control_of : ℕ → Control
control_of c =
    pick (ltb c 0x80) (code_of c)
    (pick (ltb c 0x84) Unsupported
    (pick (ltb c 0x90) Write
    (pick (eqb c 0x90) StepHead
    (pick (ltb c 0x94) Unsupported
    (pick (ltb c 0xA0) Write
    (pick (ltb c 0xC0) Invalid
    (pick (eqb c 0xD0) Reserved
    (pick (ltb c 0xE0) Read Invalid))))))))

-- Each case on paper: the octets that those sentences give it.
abbrev pub is_given : Control → ℕ → Bool
is_given Write c = between 0x84 c 0x8F || between 0x94 c 0x9F
is_given Read c = between 0xC0 c 0xCF || between 0xD1 c 0xDF
is_given Command c = one_of commands c
is_given Response c = one_of responses c
is_given StepHead c = eqb c 0x90
is_given Reserved c = eqb c 0xD0
is_given Unsupported c = between 0x80 c 0x83 || between 0x91 c 0x93 || one_of codes_acting_on_more c
is_given Invalid c = not (between 0x80 c 0x9F || between 0xC0 c 0xDF || between 0x01 c 0x07 || between 0x41 c 0x48)

-- The promise of `control_of`.
pub record ControlSaid (octet : ℕ) (r : Control) : Type 0 where
  pub answer : r ≡ control_of octet
  pub on_paper : is_given r octet ≡ true

abbrev pub is_write : Control → Bool
is_write Write = true
is_write Read = false
is_write Command = false
is_write Response = false
is_write StepHead = false
is_write Reserved = false
is_write Unsupported = false
is_write Invalid = false

abbrev pub is_read : Control → Bool
is_read Write = false
is_read Read = true
is_read Command = false
is_read Response = false
is_read StepHead = false
is_read Reserved = false
is_read Unsupported = false
is_read Invalid = false

-- "The codes come by kind 3, their parameters by kinds 4 and 5, read by 7 and 11 as a write's and a read's words".
abbrev pub takes_words : Control → Bool
takes_words Write = true
takes_words Command = true
takes_words Read = false
takes_words Response = false
takes_words StepHead = false
takes_words Reserved = false
takes_words Unsupported = false
takes_words Invalid = false

abbrev pub gives_words : Control → Bool
gives_words Read = true
gives_words Response = true
gives_words Write = false
gives_words Command = false
gives_words StepHead = false
gives_words Reserved = false
gives_words Unsupported = false
gives_words Invalid = false

-- Bit 7 (004, 8.3.8.1): "When this bit is reset, the operation will be a Command or Response transfer. When this bit is set, the operation will be a
-- data transfer."
abbrev pub is_data : ℕ → Bool
is_data c = leb 0x80 c

-- "Bit 0 names field 1, bit 1 field 2."
abbrev pub names_field1 : ℕ → Bool
names_field1 c = bit 0 c

abbrev pub names_field2 : ℕ → Bool
names_field2 c = bit 1 c

-- "Bits 3–2: on writes, 01 verify header, 10 write it, 11 write it at the target; on reads, 00 or 01 skip it, 10 read it, 11 read it at the target."
abbrev pub header_bits : ℕ → ℕ
header_bits c = c / 4 % 4

abbrev pub verifies_header : ℕ → Bool
verifies_header c = eqb (header_bits c) 1

abbrev pub moves_header : ℕ → Bool
moves_header c = leb 2 (header_bits c)

abbrev pub is_at_target : ℕ → Bool
is_at_target c = eqb (header_bits c) 3

-- The words that pass of a part of the sector: all of them, or none.
abbrev pub part : Bool → ℕ → ℕ
part passes words = pick passes words 0

-- A write takes the header's words whether it verifies or writes them.
unfoldable pub header_passes : ℕ → Bool
header_passes c = is_write (control_of c) || moves_header c

-- The words of a data transfer.
unfoldable pub data_words : Setup → ℕ → ℕ
data_words s c = part (header_passes c) s.header + part (names_field1 c) s.field1 + part (names_field2 c) s.field2

-- "the number of words to come"
unfoldable pub words_to_come : Setup → ℕ → ℕ
words_to_come s c = pick (is_data c) (data_words s c) (parameter_words c)

-- "Words pass header, field 1, field 2": what a read takes of a sector.
unfoldable pub words_read : Setup → ℕ → List ℕ → List ℕ
words_read s c sector =
    pick (header_passes c) (take s.header sector) []
    ++ pick (names_field1 c) (take s.field1 (drop s.header sector)) []
    ++ pick (names_field2 c) (take s.field2 (drop (s.header + s.field1) sector)) []
