-- The bench cases' status responses, computed.
-- Assumes nothing.
use mathlib.Core.Path.{refl}
use Rattle.laws.specs.Pick.{pick}
use Rattle.status.specs.Response.{unsolicited_octet, bus_control_octet, exception_octet, response_of, is_foreign}
use Rattle.status.specs.Cases.{ResponseCases}

pub response_cases_lem : ResponseCases
unfolding pick unsolicited_octet bus_control_octet exception_octet response_of is_foreign
response_cases_lem = record { p8 = refl; p9 = refl; p9_decoded = record { answer = refl; octets_told = refl } }
