-- Copy 0 judged part by part: the first part with an offence has that of the whole data field.
-- Assumes nothing.
use Prim.Native.Nat.{ℕ, ◌+◌}
use mathlib.Core.Path.{◌≡◌, ◌∙◌}
use mathlib.Core.List.{List, ◌++◌}
use lib.ListN.{length}
use Rattle.parts.specs.declared.setup.Setup.{Setup}
use Rattle.std.proofs.Math.Option.{Option, some}
use Rattle.defects.specs.Offence.{Test, Found, no_offence, first_of}
use Rattle.defects.specs.Field.{front_of, is_flagged, defects_in}
use Rattle.defects.specs.Judging.{front_tests, list_tests, padding_tests, crc_tests, original_tests}
use Rattle.defects.specs.declared.front.Front.{Front}
use Rattle.defects.specs.declared.walk.Walk.{Walk}
use Rattle.defects.proofs.Offences.{stops, goes_on}

module _ (s : Setup) (w : Walk) (least start : ℕ) (front : Front) (field : List ℕ) (same : front ≡ front_of field) where
  abbrev fore : List Test
  fore = front_tests s w start (length field) front

  abbrev entries : List Test
  entries = list_tests s (is_flagged front.flags) least (start + 14) (defects_in field)

  abbrev padding : List Test
  padding = padding_tests start field (length (defects_in field))

  whole : first_of (fore ++ entries ++ padding ++ crc_tests start field) ≡ first_of (original_tests s w least start field)
  whole = rw same

  pub in_front : {offence : Found} → some offence ≡ first_of fore → some offence ≡ first_of (original_tests s w least start field)
  in_front e = stops (fore ++ entries ++ padding) _ (stops (fore ++ entries) padding (stops fore entries e)) ∙ whole

  module _ (front_passed : no_offence ≡ first_of fore) where
    pub in_entries : {offence : Found} → some offence ≡ first_of entries → some offence ≡ first_of (original_tests s w least start field)
    in_entries e = stops (fore ++ entries ++ padding) _ (stops (fore ++ entries) padding (goes_on fore entries front_passed e)) ∙ whole

    module _ (entries_passed : no_offence ≡ first_of entries) where
      up_to : no_offence ≡ first_of (fore ++ entries)
      up_to = goes_on fore entries front_passed entries_passed

      pub in_padding : {offence : Found} → some offence ≡ first_of padding → some offence ≡ first_of (original_tests s w least start field)
      in_padding e = stops (fore ++ entries ++ padding) _ (goes_on (fore ++ entries) padding up_to e) ∙ whole

      pub in_crc : {x : Option Found} → no_offence ≡ first_of padding → x ≡ first_of (crc_tests start field) → x ≡ first_of (original_tests s w least start field)
      in_crc padded e = goes_on (fore ++ entries ++ padding) _ (goes_on (fore ++ entries) padding up_to padded) e ∙ whole
