-- The value that a decoded map tells can be encoded: no set lists more defects than a data field holds, and each takes three data fields.
-- Assumes nothing.
use Prim.Native.Nat.{ℕ, ◌*◌, ◌<◌, ◌≤◌}
use mathlib.Core.Path.{◌≡◌, refl}
use mathlib.Core.Bool.{Bool, true, false, ◌||◌}
use mathlib.Core.List.{List}
use native.Mathlib.Omega.{arith}
use borrow.Author.Tests.{lt-ltb, le-ltb, le-leb, eq-eqb, eqb-true, eqb-false}
use lib.Dec.{eqb, ltb}
use lib.ListN.{length}
use Rattle.parts.specs.declared.setup.Setup.{Setup}
use Rattle.defects.specs.Offence.{no_offence, first_of}
use Rattle.defects.specs.Field.{slots}
use Rattle.defects.specs.Place.{field_octets, data_fields}
use Rattle.defects.specs.Walk.{walk_at, map_tests}
use Rattle.defects.specs.Decoding.{defects_of}
use Rattle.defects.specs.Encoding.{sets_for, fits, is_encodable}
use Rattle.defects.specs.Plain.{value_of}
use Rattle.defects.proofs.Thirds.{begun, counted}
use Rattle.defects.proofs.Decoded.{stored_at_end, storage_inside, decoded}
use Rattle.defects.proofs.Copies.{copies}
use Rattle.defects.proofs.SetsFor.{sets_enough}

fits_in : (s : Setup) (count sets : ℕ) → 0 < sets → count ≤ sets * slots (field_octets s) → 3 * sets ≤ data_fields s → fits s count ≡ true
unfolding fits
fits_in s count sets some held room =
    let enough = sets_enough s count sets some held in
    rw (le-leb (3 * sets_for s count) (data_fields s) (omega arith)) (by_slots (eqb (slots (field_octets s)) 0) refl)
  where
    by_slots : (none : Bool) → eqb (slots (field_octets s)) 0 ≡ none → (ltb 0 (slots (field_octets s)) || eqb count 0) ≡ true
    by_slots true e =
        let none : slots (field_octets s) ≡ 0 = eqb-true _ _ e in
        let empty : count ≤ sets * 0 = rw none at held in
        rw (le-ltb 0 (slots (field_octets s)) (omega arith)) (eq-eqb count 0 (omega arith))
    by_slots false e = rw (lt-ltb 0 (slots (field_octets s)) (omega (arith, eqb-false (slots (field_octets s)) 0 e)))

module _ (alone : Bool) (s : Setup) (octets : List ℕ) (accepted : first_of (map_tests alone s octets) ≡ no_offence) where
  pub value_encodable : is_encodable s (value_of s octets) ≡ true
  unfolding is_encodable
  value_encodable =
      let end = walk_at s octets (data_fields s) in
      let (cylinder, head) = storage_inside alone s octets accepted in
      let (none, all) = copies.whole_sets alone s octets accepted in
      let c = counted s octets (data_fields s) in
      let some : 0 < end.set = omega (arith, (stored_at_end alone s octets accepted).sets) in
      let sets : begun end ≡ end.set = omega arith in
      let listed : length (defects_of s octets) ≤ end.set * slots (field_octets s) = rw sets at c.listed in
      rw (lt-ltb end.cylinder s.cylinders cylinder, lt-ltb end.head s.heads head, decoded.defects_inside alone s octets accepted)
      (fits_in s (length (defects_of s octets)) end.set some listed (omega (arith, c.fields)))
