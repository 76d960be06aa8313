-- "Status": what is pending on a port, octets 1 and 2 of its response.
use Rattle.std.specs.Prelude.{ℕ, ◌+◌, ◌/◌, ◌%◌, ◌≡◌, eqb}
use Rattle.laws.specs.Pick.{pick}
use Rattle.parts.specs.declared.pending.Pending.{Pending}
use Rattle.parts.specs.declared.pending.Fault.{Fault}
use Rattle.parts.specs.declared.pending.Fault.TheVariants.{InvalidBusControl, InvalidParameter, UnsupportedBusControl, BusControlContext}

-- "Octet 1: bit 7 Reset Complete, bit 6 Alternate Port Priority Select."
abbrev pub reset_complete : ℕ
reset_complete = 0x80

abbrev pub alternate_port_priority_select : ℕ
alternate_port_priority_select = 0x40

-- Octet 2, by the names of 001's figure 3-3. "D0 and controls outside 80–9F and C0–DF: bit 7. A place or target outside the drive: bit 6.
-- 80–83 and 91–93: bit 5. "At target" with FFFF: bit 4."
abbrev pub invalid_bus_control : ℕ
invalid_bus_control = 0x80

abbrev pub invalid_parameter : ℕ
invalid_parameter = 0x40

abbrev pub unsupported_bus_control : ℕ
unsupported_bus_control = 0x20

abbrev pub bus_control_context : ℕ
bus_control_context = 0x10

abbrev pub bit_of : Fault → ℕ
bit_of InvalidBusControl = invalid_bus_control
bit_of InvalidParameter = invalid_parameter
bit_of UnsupportedBusControl = unsupported_bus_control
bit_of BusControlContext = bus_control_context

abbrev pub pending_of : ℕ → ℕ → Pending
pending_of octet1 octet2 = record { octet1 = octet1; octet2 = octet2 }

abbrev pub nothing_pending : Pending
nothing_pending = pending_of 0 0

-- The bits above, and no others.
pub data OneBit : ℕ → Type 0 where
  bit7 : OneBit 0x80
  bit6 : OneBit 0x40
  bit5 : OneBit 0x20
  bit4 : OneBit 0x10

-- The bits that are set in an octet stay set.
abbrev pub StaysSet : ℕ → ℕ → Type 0
StaysSet before after = (bit : ℕ) → OneBit bit → before / bit % 2 ≡ 1 → after / bit % 2 ≡ 1

-- A bit goes pending; the others stay (`set_bits_stay`).
unfoldable pub with_bit : ℕ → ℕ → ℕ
with_bit octet bit = pick (eqb (octet / bit % 2) 1) octet (octet + bit)

-- "Alternate Port Priority Select goes pending"
unfoldable pub noticed : Pending → Pending
noticed p = pending_of (with_bit p.octet1 alternate_port_priority_select) p.octet2

-- "a bad request .. sets a bit in octet 2"
unfoldable pub faulted : Pending → ℕ → Pending
faulted p bit = pending_of p.octet1 (with_bit p.octet2 bit)

-- "Octet 0: bit 6 if octet 1 is not zero, bit 5 if octet 2 is not zero."
unfoldable pub octet0 : Pending → ℕ
octet0 p = pick (eqb p.octet1 0) 0 0x40 + pick (eqb p.octet2 0) 0 0x20
