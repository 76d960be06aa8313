-- "Bench cases": the status responses that document 01 writes out.
use Rattle.std.specs.Prelude.{◌≡◌, true, false, [], ◌∷◌, Ok}
use Rattle.status.specs.Response.{response_octets, DecodedResponse}
use Rattle.status.specs.declared.response.Response.{Response}

abbrev pub taken_over : Response
taken_over =
    record {
      reset_complete = false;
      alternate_port_priority_select = true;
      invalid_bus_control = false;
      invalid_parameter = false;
      unsupported_bus_control = false;
      bus_control_context = false;
    }

abbrev pub bad_control : Response
bad_control =
    record {
      reset_complete = false;
      alternate_port_priority_select = false;
      invalid_bus_control = true;
      invalid_parameter = false;
      unsupported_bus_control = false;
      bus_control_context = false;
    }

pub record ResponseCases : Type 0 where
  -- "P8 selected, control D0: status 8; response 20 00 80 00 00 00 00 00."
  pub p8 : response_octets bad_control ≡ 0x20 ∷ 0x00 ∷ 0x80 ∷ 0x00 ∷ 0x00 ∷ 0x00 ∷ 0x00 ∷ 0x00 ∷ []
  -- "P9 .. Read status: 40 40 and six 00."
  pub p9 : response_octets taken_over ≡ 0x40 ∷ 0x40 ∷ 0x00 ∷ 0x00 ∷ 0x00 ∷ 0x00 ∷ 0x00 ∷ 0x00 ∷ []
  pub p9_decoded : DecodedResponse (0x40 ∷ 0x40 ∷ 0x00 ∷ 0x00 ∷ 0x00 ∷ 0x00 ∷ 0x00 ∷ 0x00 ∷ []) (Ok taken_over)
