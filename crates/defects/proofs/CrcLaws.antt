-- The CRC by octets: it fits, it checks, and one octet more takes one look-up in the table.
-- Assumes nothing.
use Prim.Native.Nat.{ℕ, ◌+◌, ◌*◌, ◌/◌, ◌%◌, ◌^◌, ◌<◌}
use mathlib.Core.Path.{◌≡◌, ◌∙◌}
use mathlib.Core.List.{List, [], ◌∷◌, ◌++◌}
use native.Mathlib.Nat.{add-zero}
use native.Mathlib.Omega.{arith}
use lib.Bits.{xor_self, xor_lt}
use lib.ListN.{get_or}
use Rattle.laws.specs.Pick.{pick}
use Rattle.laws.specs.Octets.{octets_of}
use Rattle.laws.proofs.Lists.{table_at}
use Rattle.defects.specs.Crc.{crc_of, remainder_after}
use Rattle.defects.specs.CrcTable.{crc_table}
use Rattle.defects.specs.CrcLaws.{CrcLaws}
use Rattle.defects.proofs.Xor.{◌⊕◌, sum_high}
use Rattle.defects.proofs.Division.{after, of_sum, with_two, remainder_lt, one_behind, two_behind}

crc_is : (octets : List ℕ) → crc_of octets ≡ after (after (remainder_after 0 octets) 0) 0
unfolding crc_of
crc_is octets = two_behind octets 0 0

pub fits : (octets : List ℕ) → crc_of octets < 2 ^ 16
unfolding crc_of
fits octets = remainder_lt 0 (octets ++ (0 ∷ 0 ∷ [])) (omega arith)

-- two octets in the room behind the others
in_the_room : (octets : List ℕ) (a b : ℕ) → a < 256 → b < 256 → after (after (remainder_after 0 octets) a) b ≡ crc_of octets ⊕ (a * 256 + b)
in_the_room octets a b ha hb = rw (crc_is octets) (with_two (remainder_after 0 octets) a b (remainder_lt 0 octets (omega arith)) ha hb)

pub checks : (octets : List ℕ) → remainder_after 0 (octets ++ octets_of 2 (crc_of octets)) ≡ 0
checks octets =
    let c = crc_of octets in
    let e : c / 256 % 256 * 256 + c % 256 ≡ c = omega (arith, fits octets) in
    two_behind octets (c / 256 % 256) (c % 256) ∙ in_the_room octets (c / 256 % 256) (c % 256) (omega arith) (omega arith) ∙ rw e (xor_self c)

pub crc_laws : CrcLaws
crc_laws = record { crc_fits = λ octets all. fits octets; crc_checks = λ octets all. checks octets }

-- ---- one octet more

one_more : (octets : List ℕ) (b : ℕ) → b < 256 → crc_of (octets ++ (b ∷ [])) ≡ after (crc_of octets ⊕ b * 256) 0
one_more octets b h = rw (crc_is (octets ++ (b ∷ [])), one_behind octets b, in_the_room octets b 0 h (omega arith), add-zero)

one_alone : (b : ℕ) → b < 256 → crc_of (b ∷ []) ≡ after (b * 256) 0
unfolding crc_of remainder_after pick
one_alone b h = one_more [] b h

pub in_table : (register b : ℕ) → register < 2 ^ 16 → b < 256 → register / 256 ⊕ b < 256
in_table register b hr hb = xor_lt 8 (register / 256) b (omega arith) hb

pub looked_up : (octets : List ℕ) (b : ℕ) → b < 256 → crc_of (octets ++ (b ∷ [])) ≡ get_or crc_table (crc_of octets / 256 ⊕ b) 0 ⊕ crc_of octets % 256 * 256
unfolding crc_table
looked_up octets b h =
    let c = crc_of octets in
    let at = c / 256 ⊕ b in
    let hat = in_table c b (fits octets) h in
    rw (one_more octets b, sum_high c b, table_at (λ octet. crc_of (octet ∷ [])) 256 at, one_alone at) (of_sum (at * 256) (c % 256) (omega arith) (omega arith))
