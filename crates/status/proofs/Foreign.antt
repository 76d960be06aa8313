-- What the base sends is its own, and what is its own is what the base sends: the octets of a response.
-- Assumes nothing.
use Prim.Native.Nat.{ℕ}
use mathlib.Core.Path.{◌≡◌, refl}
use mathlib.Core.Bool.{false, not}
use mathlib.Core.List.{List, [], ◌∷◌, ◌++◌}
use native.Mathlib.Omega.{arith}
use borrow.Author.Tests.{eq-eqb, eqb-true, not-false}
use lib.Dec.{eqb}
use lib.ListN.{get_or}
use Rattle.laws.specs.Lists.{table_from}
use Rattle.status.specs.Response.{bits_of, has_other, unsolicited_octet, bus_control_octet, exception_octet, response_of, response_octets, is_foreign}
use Rattle.status.specs.declared.response.Response.{Response}
use Rattle.laws.proofs.Tests.{or_l, or_r}
use Rattle.status.proofs.Bits.{two_bits, four_bits}

pub response_of_octets : (r : Response) → response_of (unsolicited_octet r) (bus_control_octet r) ≡ r
unfolding unsolicited_octet bus_control_octet response_of
response_of_octets r =
    let two = two_bits r.reset_complete r.alternate_port_priority_select in
    let four = four_bits r.invalid_bus_control r.invalid_parameter r.unsupported_bus_control r.bus_control_context in
    λ i. record {
      reset_complete = two.0 i;
      alternate_port_priority_select = two.1 i;
      invalid_bus_control = four.0 i;
      invalid_parameter = four.1 i;
      unsupported_bus_control = four.2 i;
      bus_control_context = four.3 i;
    }

-- ---- the octets that the base sends

none_other : (bits : List ℕ) (octet : ℕ) → octet ≡ bits_of bits octet → has_other bits octet ≡ false
none_other bits octet e = rw (eq-eqb _ _ e)

two_alone : (r : Response) → has_other (7 ∷ 6 ∷ []) (unsolicited_octet r) ≡ false
unfolding unsolicited_octet
two_alone r =
    let (a, b) = two_bits r.reset_complete r.alternate_port_priority_select in
    none_other (7 ∷ 6 ∷ []) (unsolicited_octet r) (rw (a, b) (omega arith))

four_alone : (r : Response) → has_other (7 ∷ 6 ∷ 5 ∷ 4 ∷ []) (bus_control_octet r) ≡ false
unfolding bus_control_octet
four_alone r =
    let (a, b, c, d) = four_bits r.invalid_bus_control r.invalid_parameter r.unsupported_bus_control r.bus_control_context in
    none_other (7 ∷ 6 ∷ 5 ∷ 4 ∷ []) (bus_control_octet r) (rw (a, b, c, d) (omega arith))

pub never_foreign : (r : Response) (rest : List ℕ) → is_foreign (response_octets r ++ rest) ≡ false
unfolding is_foreign
never_foreign r rest = rw (two_alone r, four_alone r, eq-eqb _ _ refl)

-- ---- octets that are not foreign

same : (a b : ℕ) → not (eqb a b) ≡ false → a ≡ b
same a b e = eqb-true a b (not-false _ e)

ruleset apart = (or_l, or_r, same)

pub own_octets : (octets : List ℕ) → is_foreign octets ≡ false → response_octets (response_of (get_or octets 1 0) (get_or octets 2 0)) ≡ table_from (λ i. get_or octets i 0) 0 8
unfolding is_foreign response_of unsolicited_octet bus_control_octet
own_octets octets h =
    let at : ℕ → ℕ = λ i. get_or octets i 0 in
    let two : at 1 ≡ bits_of (7 ∷ 6 ∷ []) (at 1) = search apart depth 12 in
    let four : at 2 ≡ bits_of (7 ∷ 6 ∷ 5 ∷ 4 ∷ []) (at 2) = search apart depth 12 in
    let rest : (at 3 ≡ 0) × (at 4 ≡ 0) × (at 5 ≡ 0) × (at 6 ≡ 0) × (at 7 ≡ 0) = search apart depth 12 in
    let fits : at 0 ≡ exception_octet (at 1) (at 2) = search apart depth 12 in
    let first : unsolicited_octet (response_of (at 1) (at 2)) ≡ at 1 = omega arith in
    let second : bus_control_octet (response_of (at 1) (at 2)) ≡ at 2 = omega arith in
    cc
