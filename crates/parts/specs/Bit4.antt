-- "D4 does what C4 does (001), and (our reading) bit 4 changes nothing except that 90 is Step Head .. and D0 is reserved."
use Rattle.std.specs.Prelude.{ℕ, ◌+◌, ◌≡◌, Bool, ◌&&◌, ◌||◌, List, ltb, leb}
use Rattle.parts.specs.Control.{control_of, names_field1, names_field2, verifies_header, moves_header, is_at_target, header_passes, words_to_come, words_read}
use Rattle.parts.specs.declared.setup.Setup.{Setup}

-- The controls of 80–9F and C0–DF without bit 4, but 80 and C0, whose partners 90 and D0 are the exceptions.
abbrev pub has_partner : ℕ → Bool
has_partner c = leb 0x81 c && ltb c 0x90 || leb 0xC1 c && ltb c 0xD0

-- A control and its partner: every rule that looks at a control says the same of both.
pub record Bit4ChangesNothing (c : ℕ) : Type 0 where
  pub kind : control_of (c + 16) ≡ control_of c
  pub field1 : names_field1 (c + 16) ≡ names_field1 c
  pub field2 : names_field2 (c + 16) ≡ names_field2 c
  pub verify : verifies_header (c + 16) ≡ verifies_header c
  pub header : moves_header (c + 16) ≡ moves_header c
  pub target : is_at_target (c + 16) ≡ is_at_target c
  pub passes : header_passes (c + 16) ≡ header_passes c
  pub words : (s : Setup) → words_to_come s (c + 16) ≡ words_to_come s c
  pub read : (s : Setup) (sector : List ℕ) → words_read s (c + 16) sector ≡ words_read s c sector
