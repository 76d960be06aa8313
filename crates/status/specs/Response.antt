-- "The response is 8 octets (001, figure 3-3)": its bits, and what the two calls answer.
use Rattle.std.specs.Prelude.{ℕ, ◌+◌, ◌^◌, ◌≡◌, Bool, not, ◌||◌, List, [], ◌∷◌, Result, IfOk, eqb, ltb, length, get_or, take}
use Rattle.laws.specs.Pick.{pick}
use Rattle.laws.specs.Rows.{Row, ◌when◌, refused_or}
use Rattle.laws.specs.Octets.{bit}
use Rattle.status.specs.declared.response.Response.{Response}
use Rattle.refusals.specs.Refusal.{on_paper}
use Rattle.refusals.specs.declared.refusal.Refusal.{Refusal}

-- Bit k, counted from 0, where the test holds.
abbrev pub bit_when : ℕ → Bool → ℕ
bit_when k test = pick test (2 ^ k) 0

-- "Octet 1: bit 7 Reset Complete, bit 6 Alternate Port Priority Select."
unfoldable pub unsolicited_octet : Response → ℕ
unsolicited_octet r = bit_when 7 r.reset_complete + bit_when 6 r.alternate_port_priority_select

-- Octet 2: bit 7 Invalid Bus Control, bit 6 Invalid Parameter, bit 5 Unsupported Bus Control, bit 4 Bus Control Context.
unfoldable pub bus_control_octet : Response → ℕ
bus_control_octet r =
    bit_when 7 r.invalid_bus_control + bit_when 6 r.invalid_parameter + bit_when 5 r.unsupported_bus_control + bit_when 4 r.bus_control_context

-- "Octet 0: bit 6 if octet 1 is not zero, bit 5 if octet 2 is not zero."
unfoldable pub exception_octet : ℕ → ℕ → ℕ
exception_octet octet1 octet2 = bit_when 6 (not (eqb octet1 0)) + bit_when 5 (not (eqb octet2 0))

-- "The response is 8 octets .. All else 0."
abbrev pub response_octets : Response → List ℕ
response_octets r = exception_octet (unsolicited_octet r) (bus_control_octet r) ∷ unsolicited_octet r ∷ bus_control_octet r ∷ 0 ∷ 0 ∷ 0 ∷ 0 ∷ 0 ∷ []

-- The response that octets 1 and 2 say.
unfoldable pub response_of : ℕ → ℕ → Response
response_of octet1 octet2 =
    record {
      reset_complete = bit 7 octet1;
      alternate_port_priority_select = bit 6 octet1;
      invalid_bus_control = bit 7 octet2;
      invalid_parameter = bit 6 octet2;
      unsupported_bus_control = bit 5 octet2;
      bus_control_context = bit 4 octet2;
    }

-- The number that these bits of an octet make.
abbrev pub bits_of : List ℕ → ℕ → ℕ
bits_of [] octet = 0
bits_of (k ∷ bits) octet = bit_when k (bit k octet) + bits_of bits octet

-- A bit beside these is set.
abbrev pub has_other : List ℕ → ℕ → Bool
has_other bits octet = not (eqb octet (bits_of bits octet))

-- "a status response with a bit the base never sets or an octet 0 that doesn't fit octets 1 and 2": one that fits has no other bit.
unfoldable pub is_foreign : List ℕ → Bool
is_foreign octets =
    has_other (7 ∷ 6 ∷ []) (get_or octets 1 0)
    || has_other (7 ∷ 6 ∷ 5 ∷ 4 ∷ []) (get_or octets 2 0)
    || has_other [] (get_or octets 3 0)
    || has_other [] (get_or octets 4 0)
    || has_other [] (get_or octets 5 0)
    || has_other [] (get_or octets 6 0)
    || has_other [] (get_or octets 7 0)
    || not (eqb (get_or octets 0 0) (exception_octet (get_or octets 1 0) (get_or octets 2 0)))

-- "other decoders .. [test] 10, then 8"
abbrev pub response_rows : List ℕ → List Row
response_rows octets = 10 when ltb (length octets) 8 ∷ 8 when is_foreign octets ∷ []

-- The promise of `decode_response`: the refusal, or the response that the first 8 octets are.
pub record DecodedResponse (octets : List ℕ) (r : Result Response Refusal) : Type 0 where
  pub answer : on_paper r ≡ refused_or (response_rows octets) (response_of (get_or octets 1 0) (get_or octets 2 0))
  pub octets_told : IfOk r (λ response. response_octets response ≡ take 8 octets)
