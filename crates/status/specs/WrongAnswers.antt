-- Wrong answers, two for each call: what a careless programmer would get, and no promise allows.
use Rattle.std.specs.Prelude.{[], ◌∷◌, Ok, Err}
use Rattle.status.specs.Encoded.{EncodedAs}
use Rattle.status.specs.DriveStatus.{drive_status_octets, DecodedDriveStatus}
use Rattle.status.specs.Response.{response_octets, DecodedResponse}
use Rattle.status.specs.Cases.{taken_over, bad_control}
use Rattle.refusals.specs.declared.refusal.Refusal.TheVariants.{Malformed}
use Rattle.status.specs.declared.drive_status.DriveStatus.TheVariants.{Normal, HeaderMiscompare}

pub record WrongAnswers : Type 0 where
  -- ---- decode_drive_status
  -- Octet 02 is no status: 8.
  pub normal_for_02 : DecodedDriveStatus (0x02 ∷ []) (Ok Normal) → ⊥
  -- No octet at all is a slice too short: 10, before 8 is asked.
  pub eight_for_no_octet : DecodedDriveStatus [] (Err Malformed) → ⊥
  -- ---- encode_drive_status
  -- A header miscompare is 07.
  pub miscompare_as_06 : EncodedAs (drive_status_octets HeaderMiscompare) (0xFF ∷ []) (0x06 ∷ []) (Ok tt) → ⊥
  -- Only the first octet is written.
  pub octet_1_changed : EncodedAs (drive_status_octets Normal) (0xFF ∷ 0xFF ∷ []) (0x00 ∷ 0x00 ∷ []) (Ok tt) → ⊥
  -- ---- decode_response
  -- Bit 5 of octet 1 is one that the base never sets: 8.
  pub octet_1_bit_5_taken : DecodedResponse (0x40 ∷ 0x60 ∷ 0x00 ∷ 0x00 ∷ 0x00 ∷ 0x00 ∷ 0x00 ∷ 0x00 ∷ []) (Ok taken_over) → ⊥
  -- 40 00 80 has an octet 0 that does not fit octets 1 and 2: 8.
  pub unfit_octet_0_taken : DecodedResponse (0x40 ∷ 0x00 ∷ 0x80 ∷ 0x00 ∷ 0x00 ∷ 0x00 ∷ 0x00 ∷ 0x00 ∷ []) (Ok bad_control) → ⊥
  -- ---- encode_response
  -- Octet 0 tells that octet 1 is not zero.
  pub octet_0_left_out : EncodedAs (response_octets taken_over) (0x00 ∷ 0x00 ∷ 0x00 ∷ 0x00 ∷ 0x00 ∷ 0x00 ∷ 0x00 ∷ 0x00 ∷ [])
      (0x00 ∷ 0x40 ∷ 0x00 ∷ 0x00 ∷ 0x00 ∷ 0x00 ∷ 0x00 ∷ 0x00 ∷ []) (Ok tt) → ⊥
  -- Octet 7 is written too.
  pub octet_7_left : EncodedAs (response_octets taken_over) (0xFF ∷ 0xFF ∷ 0xFF ∷ 0xFF ∷ 0xFF ∷ 0xFF ∷ 0xFF ∷ 0xFF ∷ [])
      (0x40 ∷ 0x40 ∷ 0x00 ∷ 0x00 ∷ 0x00 ∷ 0x00 ∷ 0x00 ∷ 0xFF ∷ []) (Ok tt) → ⊥
