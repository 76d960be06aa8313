-- Every element of an encoded map is an octet.
-- Assumes nothing.
use Prim.Native.Nat.{ℕ, zero, suc, ◌-◌, ◌/◌, ◌<◌}
use mathlib.Core.Bool.{Bool}
use mathlib.Core.List.{List, [], ◌∷◌, ◌++◌}
use native.Mathlib.Omega.{arith}
use lib.ListN.{length, replicate}
use Rattle.laws.specs.Octets.{octets_of, AllOctets}
use Rattle.laws.proofs.Pick.{pick_le}
use Rattle.parts.specs.declared.setup.Setup.{Setup}
use Rattle.defects.specs.Crc.{crc_of}
use Rattle.defects.specs.Defect.{defect_octets, list_octets}
use Rattle.defects.specs.Place.{field_octets}
use Rattle.defects.specs.Encoding.{Value, sets_for, flags_for, defects_of_set, front_octets, body_octets, data_field, sets_from, map_octets}
use Rattle.defects.specs.declared.defect.Defect.{Defect}

-- ---- lists of octets

data Octets : List ℕ → Type 0 where
  end : Octets []
  next : {x : ℕ} {octets : List ℕ} → x < 256 → Octets octets → Octets (x ∷ octets)

each : {octets : List ℕ} → Octets octets → AllOctets octets
each end i = omega arith
each (next h p) zero = h
each (next h p) (suc i) = each p i

joined : {a b : List ℕ} → Octets a → Octets b → Octets (a ++ b)
joined end q = q
joined (next h p) q = next h (joined p q)

zeros : (count : ℕ) → Octets (replicate count 0)
zeros zero = end
zeros (suc count) = next {x = 0} (omega arith) (zeros count)

of_number : (count n : ℕ) → Octets (octets_of count n)
of_number zero n = end
of_number (suc count) n = joined (of_number count (n / 256)) (next (omega arith) end)

of_defect : (d : Defect) → Octets (defect_octets d)
unfolding defect_octets
of_defect d = joined (joined (joined (of_number 4 d.cylinder) (of_number 2 d.head)) (of_number 4 d.offset)) (of_number 2 d.length)

of_list : (defects : List Defect) → Octets (list_octets defects)
of_list [] = end
of_list (d ∷ defects) = joined (of_defect d) (of_list defects)

-- ---- a data field, and the map

few_flags : (last unordered : Bool) → flags_for last unordered < 256
few_flags last unordered = omega (arith, pick_le last 128, pick_le unordered 8)

module _ (s : Setup) (v : Value) where
  of_front : (set copy : ℕ) → copy < 256 → Octets (front_octets s v set copy)
  unfolding front_octets
  of_front set copy small =
      let opening = joined (of_number 2 (field_octets s - 2)) (next (few_flags _ _) (next small end)) in
      let numbers = joined (joined opening (of_number 2 (sets_for s (length v.defects)))) (of_number 2 set) in
      joined (joined numbers (of_number 4 v.cylinder)) (of_number 2 v.head)

  of_field : (set copy : ℕ) → copy < 256 → Octets (data_field s v set copy)
  unfolding data_field body_octets
  of_field set copy small =
      let defects = defects_of_set s v set in
      let padding = zeros (field_octets s - 16 - length (list_octets defects)) in
      joined (joined (joined (of_front set copy small) (of_list defects)) padding) (of_number 2 (crc_of (body_octets s v set copy)))

  of_sets : (set count : ℕ) → Octets (sets_from s v set count)
  unfolding sets_from
  of_sets set zero = end
  of_sets set (suc count) =
      joined (joined (joined (of_field set 0 (omega arith)) (of_field set 1 (omega arith))) (of_field set 2 (omega arith))) (of_sets (suc set) count)

  pub map_is_octets : AllOctets (map_octets s v)
  unfolding map_octets
  map_is_octets = each (of_sets 0 (sets_for s (length v.defects)))
