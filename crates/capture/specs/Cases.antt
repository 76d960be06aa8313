-- The capture of three events that document 01 writes out.
use Rattle.std.specs.Prelude.{ℕ, ◌≡◌, List, [], ◌∷◌, ◌++◌, Ok}
use Rattle.capture.specs.Record.{DecodedRecord}
use Rattle.capture.specs.Capture.{DecodedCapture}
use Rattle.capture.specs.Encoding.{capture_octets}
use Rattle.capture.specs.declared.«record».Record.{Record}

-- "Three events, whole, hex: `00 00 00 01 30 00 00 00`, `00 05 01 01 30 00 00 00`, `00 09 00 02 00 00 00 00`"
abbrev pub three_events : List ℕ
three_events =
    0x00 ∷ 0x00 ∷ 0x00 ∷ 0x01 ∷ 0x30 ∷ 0x00 ∷ 0x00 ∷ 0x00
    ∷ 0x00 ∷ 0x05 ∷ 0x01 ∷ 0x01 ∷ 0x30 ∷ 0x00 ∷ 0x00 ∷ 0x00
    ∷ 0x00 ∷ 0x09 ∷ 0x00 ∷ 0x02 ∷ 0x00 ∷ 0x00 ∷ 0x00 ∷ 0x00
    ∷ []

-- "`00 00 00 18 49 50 49 32`"
abbrev pub its_trailer : List ℕ
its_trailer = 0x00 ∷ 0x00 ∷ 0x00 ∷ 0x18 ∷ 0x49 ∷ 0x50 ∷ 0x49 ∷ 0x32 ∷ []

-- The second event: tick 5, port 1 selects with octet 30.
abbrev pub second_event : Record
second_event = record { tick = 5; port = 1; kind = 1; a0 = 0x30; a1 = 0; a2 = 0; a3 = 0 }

pub record CaptureCases : Type 0 where
  pub encoded : capture_octets [] three_events ≡ three_events ++ its_trailer
  pub decoded : DecodedCapture (three_events ++ its_trailer) (Ok (record { first = 0; count = 3 }))
  pub second : DecodedRecord (0x00 ∷ 0x05 ∷ 0x01 ∷ 0x01 ∷ 0x30 ∷ 0x00 ∷ 0x00 ∷ 0x00 ∷ []) (Ok second_event)
