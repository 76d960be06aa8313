-- "Each defect entry in the map is 12 octets in length": a defect, both ways, and the order of defects.
use Rattle.std.specs.Prelude.{ℕ, ◌+◌, ◌*◌, ◌^◌, max, ◌≡◌, Bool, ◌&&◌, List, [], ◌∷◌, ◌++◌, Result, eqb, ltb, length, take, drop, ⊤}
use Rattle.laws.specs.Rows.{Row, first, ◌when◌, unless_refused, refused_or}
use Rattle.laws.specs.Lists.{written_over}
use Rattle.laws.specs.Octets.{number_of, octets_of}
use Rattle.refusals.specs.Refusal.{on_paper, refusal_in}
use Rattle.refusals.specs.declared.refusal.Refusal.{Refusal}
use Rattle.defects.specs.declared.defect.Defect.{Defect}

-- The number in so many octets from an index on. "The most significant octet is transferred first in multi-octet parameters".
unfoldable pub number_at : ℕ → ℕ → List ℕ → ℕ
number_at width at octets = number_of (take width (drop at octets))

-- "Cylinder Address of Defect", "Head address of defect", "Offset of defect from Index (octets)", "Length of defect (bits)": 4, 2, 4 and 2
-- octets, from an index on.
abbrev pub defect_at : ℕ → List ℕ → Defect
defect_at at octets =
    record {
      cylinder = number_at 4 at octets;
      head = number_at 2 (at + 4) octets;
      offset = number_at 4 (at + 6) octets;
      length = number_at 2 (at + 10) octets;
    }

-- The same octets, from the defect.
unfoldable pub defect_octets : Defect → List ℕ
defect_octets d = octets_of 4 d.cylinder ++ octets_of 2 d.head ++ octets_of 4 d.offset ++ octets_of 2 d.length

abbrev pub list_octets : List Defect → List ℕ
list_octets [] = []
list_octets (d ∷ defects) = defect_octets d ++ list_octets defects

-- "other decoders and all encoders [test] 10, then 8": any 12 octets are a defect and every defect is what a decoding yields, so no row
-- 8 can hold.
abbrev pub defect_rows : List ℕ → List Row
defect_rows slice = 10 when ltb (length slice) 12 ∷ []

abbrev pub defect_refusal : List ℕ → ℕ
defect_refusal slice = first (defect_rows slice)

-- The promise of `decode_defect`: the number of the refusal, or the four numbers of the defect.
pub record DecodedDefect (octets : List ℕ) (r : Result Defect Refusal) : Type 0 where
  pub answer : on_paper r ≡ refused_or (defect_rows octets) (defect_at 0 octets)

-- The promise of `encode_defect`.
pub record EncodedDefect (d : Defect) (before after : List ℕ) (r : Result ⊤ Refusal) : Type 0 where
  pub answer : refusal_in r ≡ defect_refusal before
  pub slice : after ≡ unless_refused (defect_refusal before) before (written_over before (defect_octets d))

-- Twelve zeros are no defect: "the remainder following the last defect entry will be padded with zeros".
unfoldable pub is_blank : Defect → Bool
is_blank d = eqb d.cylinder 0 && eqb d.head 0 && eqb d.offset 0 && eqb d.length 0

-- "in order of increasing physical addresses": cylinder, head and offset, compared in that order.
unfoldable pub address : Defect → ℕ
address d = (d.cylinder * 2 ^ 16 + d.head) * 2 ^ 32 + d.offset

-- The least address that is higher than all before it, once a defect more stands before it.
abbrev pub behind : ℕ → Defect → ℕ
behind least d = max least (address d + 1)

abbrev pub behind_all : ℕ → List Defect → ℕ
behind_all least [] = least
behind_all least (d ∷ defects) = behind_all (behind least d) defects

-- A defect before it in the map has the same address or a higher one.
abbrev pub is_out_of_sequence : ℕ → Defect → Bool
is_out_of_sequence least d = ltb (address d) least
