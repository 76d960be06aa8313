-- A defect's octets and the defect undo each other, from any index on; the numbers that octets hold fit their width; how many octets defects have.
-- Assumes nothing.
use Prim.Native.Nat.{ℕ, ◌+◌, ◌*◌, ◌^◌, ◌<◌, ◌≤◌}
use mathlib.Core.Path.{◌≡◌, refl, sym, ap, ap₂, ◌∙◌}
use mathlib.Core.List.{List, [], ◌∷◌, ◌++◌, append_assoc}
use native.Mathlib.Nat.{add-zero, lt_of_lt_of_le, pow-le-pow_right}
use native.Mathlib.Omega.{arith}
use lib.ListN.{length, take, drop, length-append, length-take, length-drop}
use lib.Seq.{length-take-le, take-add, drop-drop}
use Rattle.laws.specs.Octets.{octets_of, AllOctets}
use Rattle.laws.proofs.Octets.{number_fits, number_of_octets, octets_of_number, octets_taken, octets_dropped}
use Rattle.defects.specs.Defect.{number_at, defect_at, defect_octets, list_octets}
use Rattle.defects.specs.DefectRoundTrip.{Fitting}
use Rattle.defects.specs.declared.defect.Defect.{Defect}

-- ---- numbers of octets fit

number_at_fits : (width at : ℕ) (octets : List ℕ) → AllOctets octets → number_at width at octets < 256 ^ width
unfolding number_at
number_at_fits width at octets all =
    let list = take width (drop at octets) in
    let short : length list ≤ width = simp length-take (omega arith) in
    lt_of_lt_of_le (number_fits list (octets_taken width (drop at octets) (octets_dropped at octets all))) (pow-le-pow_right (omega arith) short)

pub defect_fits : (at : ℕ) (octets : List ℕ) → AllOctets octets → Fitting (defect_at at octets)
defect_fits at octets all =
    record {
      cylinder = number_at_fits 4 at octets all;
      head = number_at_fits 2 (at + 4) octets all;
      offset = number_at_fits 4 (at + 6) octets all;
      length = number_at_fits 2 (at + 10) octets all;
    }

-- ---- octets to a defect and back

pub length_defect_octets : (d : Defect) → length (defect_octets d) ≡ 12
unfolding defect_octets
length_defect_octets d = refl

pub length_list : (defects : List Defect) → length (list_octets defects) ≡ 12 * length defects
length_list [] = refl
length_list (d ∷ defects) = omega (arith, length-append (defect_octets d) (list_octets defects), length_defect_octets d, length_list defects)

pub list_append : (a b : List Defect) → list_octets (a ++ b) ≡ list_octets a ++ list_octets b
list_append [] b = refl
list_append (d ∷ a) b = ap (λ (rest : List ℕ). defect_octets d ++ rest) (list_append a b) ∙ sym (append_assoc (defect_octets d) (list_octets a) (list_octets b))

pub defect_at_drop : (at : ℕ) (octets : List ℕ) → defect_at at octets ≡ defect_at 0 (drop at octets)
unfolding number_at
defect_at_drop at octets = simp (drop-drop, add-zero)

pub defect_of_octets : (d : Defect) (rest : List ℕ) → Fitting d → defect_at 0 (defect_octets d ++ rest) ≡ d
unfolding number_at defect_octets
defect_of_octets d rest f =
    λ i. record {
      cylinder = number_of_octets 4 d.cylinder f.cylinder i;
      head = number_of_octets 2 d.head f.head i;
      offset = number_of_octets 4 d.offset f.offset i;
      length = number_of_octets 2 d.length f.length i;
    }

module _ (octets : List ℕ) (all : AllOctets octets) where
  -- the octets of the number that stands there
  pub octets_there : (width at : ℕ) → at + width ≤ length octets → octets_of width (number_at width at octets) ≡ take width (drop at octets)
  unfolding number_at
  octets_there width at h =
      let there = drop at octets in
      let long : width ≤ length there = simp length-drop (omega arith) in
      octets_of_number width (take width there) (length-take-le width there long) (octets_taken width there (octets_dropped at octets all))

  -- one number more, behind those before it
  pub with_next : (at before width : ℕ) {front : List ℕ} → at + before + width ≤ length octets → front ≡ take before (drop at octets)
      → front ++ octets_of width (number_at width (at + before) octets) ≡ take (before + width) (drop at octets)
  with_next at before width h e =
      rw (take-add before width (drop at octets), drop-drop before at octets) (ap₂ ◌++◌ e (octets_there width (at + before) h))

pub octets_of_defect : (at : ℕ) (octets : List ℕ) → at + 12 ≤ length octets → AllOctets octets → defect_octets (defect_at at octets) ≡ take 12 (drop at octets)
unfolding defect_octets
octets_of_defect at octets h all =
    let cylinder = octets_there octets all 4 at (omega arith) in
    let head = with_next octets all at 4 2 (omega arith) cylinder in
    let offset = with_next octets all at 6 4 (omega arith) head in
    with_next octets all at 10 2 (omega arith) offset
