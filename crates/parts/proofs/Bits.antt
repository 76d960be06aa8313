-- A bit that goes pending: it has room in its octet, and the bits that are set there stay set.
-- Assumes nothing.
use Prim.Native.Nat.{ℕ, ◌+◌, ◌/◌, ◌%◌, ◌<◌}
use mathlib.Core.Path.{◌≡◌, refl}
use mathlib.Core.Bool.{Bool, true, not, ◌||◌}
use mathlib.Core.List.{List, [], ◌∷◌}
use native.Mathlib.Omega.{arith}
use borrow.Author.Tests.{eqb-true, eqb-false}
use lib.Dec.{eqb}
use lib.Bits.{bit_or}
use Rattle.laws.specs.Pick.{pick}
use Rattle.laws.specs.Lists.{one_of}
use Rattle.laws.proofs.Pick.{cases}
use Rattle.laws.proofs.Lists.{every_below, every_below_lem, every, every_one_of}
use Rattle.parts.specs.Pending.{OneBit, bit7, bit6, bit5, bit4, StaysSet, with_bit, bit_of}
use Rattle.parts.specs.declared.pending.Fault.{Fault}
use Rattle.parts.specs.declared.pending.Fault.TheVariants.{InvalidBusControl, InvalidParameter, UnsupportedBusControl, BusControlContext}

pub one_bit : (fault : Fault) → OneBit (bit_of fault)
one_bit InvalidBusControl = bit7
one_bit InvalidParameter = bit6
one_bit UnsupportedBusControl = bit5
one_bit BusControlContext = bit4

has_room : {bit : ℕ} (octet : ℕ) → OneBit bit → octet < 256 → (octet / bit % 2 ≡ 1 → ⊥) → octet + bit < 256
has_room octet bit7 h n = omega arith
has_room octet bit6 h n = omega arith
has_room octet bit5 h n = omega arith
has_room octet bit4 h n = omega arith

pub bit_fits : {bit : ℕ} (octet : ℕ) → OneBit bit → octet < 256 → with_bit octet bit < 256
unfolding with_bit
bit_fits {bit} octet b h = cases (λ (n : ℕ). n < 256) (eqb (octet / bit % 2) 1) (λ z. h) (λ z. has_room octet b h (eqb-false (octet / bit % 2) 1 z))

-- ---- one computed test over all octets

bits : List ℕ
bits = 0x80 ∷ 0x40 ∷ 0x20 ∷ 0x10 ∷ []

one_of_bits : {bit : ℕ} → OneBit bit → one_of bits bit ≡ true
unfolding bits
one_of_bits bit7 = refl
one_of_bits bit6 = refl
one_of_bits bit5 = refl
one_of_bits bit4 = refl

-- a bit that goes pending is joined to the octet by `or`
joins : ℕ → ℕ → Bool
joins octet bit = eqb (bit_or octet bit) (with_bit octet bit)

all_join : every_below 256 (λ octet. every (joins octet) bits) ≡ true
unfolding bits joins with_bit pick
all_join = refl

pub joined_by_or : {bit : ℕ} (octet : ℕ) → OneBit bit → octet < 256 → bit_or octet bit ≡ with_bit octet bit
unfolding joins
joined_by_or {bit} octet o h =
    eqb-true (bit_or octet bit) (with_bit octet bit) (every_one_of (joins octet) bits bit (one_of_bits o) (every_below_lem 256 (λ n. every (joins n) bits) all_join octet h))

keeps : ℕ → ℕ → ℕ → Bool
keeps octet bit other = not (eqb (octet / other % 2) 1) || eqb (with_bit octet bit / other % 2) 1

all_keep : every_below 256 (λ octet. every (λ bit. every (keeps octet bit) bits) bits) ≡ true
unfolding bits keeps with_bit pick
all_keep = refl

pub set_bits_stay : {bit : ℕ} (octet : ℕ) → OneBit bit → octet < 256 → StaysSet octet (with_bit octet bit)
unfolding keeps
set_bits_stay {bit} octet o h other p s =
    let at-octet = every_below_lem 256 (λ n. every (λ b. every (keeps n b) bits) bits) all_keep octet h in
    let at-bit = every_one_of (λ b. every (keeps octet b) bits) bits bit (one_of_bits o) at-octet in
    let at_other = every_one_of (keeps octet bit) bits other (one_of_bits p) at-bit in
    eqb-true (with_bit octet bit / other % 2) 1 (rw s at at_other)
