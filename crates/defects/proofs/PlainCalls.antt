-- What `decode_map` told, handed to `encode_map`, is the value of the map that was decoded.
-- Assumes nothing.
use Prim.Native.Nat.{ℕ, ◌+◌, ◌*◌, ◌/◌, ◌%◌, ◌≤◌}
use mathlib.Core.Path.{◌≡◌, refl, sym, ap, ap₂, ◌∙◌}
use mathlib.Core.Bool.{true, false, not, ◌||◌}
use mathlib.Core.List.{List, [], ◌∷◌, ◌++◌, append_assoc}
use native.Mathlib.Omega.{arith}
use borrow.Author.Tests.{le-ltb, eq-eqb, not-false}
use lib.Dec.{eqb}
use lib.ListN.{length, take, drop, length-append}
use lib.Seq.{take_at}
use Rattle.laws.specs.Lists.{written_over}
use Rattle.laws.proofs.Pick.{not_f}
use Rattle.laws.proofs.Rows.{none_given}
use Rattle.parts.specs.Setup.{within_limits}
use Rattle.parts.specs.declared.setup.Setup.{Setup}
use Rattle.defects.specs.Defect.{defect_octets, list_octets}
use Rattle.defects.specs.Decoded.{WithoutOffence}
use Rattle.defects.specs.Decoding.{map_told, decode_offence, defects_of, map_of, DecodedMap}
use Rattle.defects.specs.Encoding.{list_from, defects_listed, is_encodable, map_length, map_octets, encode_rows, EncodedMap}
use Rattle.defects.specs.RoundTrip.{AllFitting}
use Rattle.defects.specs.Plain.{value_of}
use Rattle.defects.specs.declared.defect.Defect.{Defect}
use Rattle.defects.specs.declared.decoding.MapRead.{MapRead}
use Rattle.refusals.specs.declared.refusal.Refusal.{Refusal}
use Rattle.refusals.proofs.OnPaper.{answer_only}
use Rattle.std.specs.Prelude.{Result, Ok}
use Rattle.defects.proofs.Answers.{value_told}
use Rattle.defects.proofs.Offences.{none_head}
use Rattle.defects.proofs.DefectOctets.{length_defect_octets, length_list}
use Rattle.defects.proofs.EncodedField.{defect_behind}
use Rattle.defects.proofs.EncodedMap.{length-map}

-- ---- octets that list defects

listed_behind : (defects : List Defect) (front : List ℕ) (start : ℕ) → length front ≡ start → AllFitting defects
    → list_from (front ++ list_octets defects) start (length defects) ≡ defects
unfolding list_from
listed_behind [] front start e f = refl
listed_behind (d ∷ defects) front start e f =
    let next : length (front ++ defect_octets d) ≡ start + 12 = omega (arith, length-append front (defect_octets d), length_defect_octets d) in
    let rest = rw (append_assoc front (defect_octets d) (list_octets defects)) at (listed_behind defects (front ++ defect_octets d) (start + 12) next f.1) in
    ap₂ (λ (x : Defect) (xs : List Defect). x ∷ xs) (defect_behind d front (list_octets defects) start e f.0) rest

listed_again : (defects : List Defect) → AllFitting defects → defects_listed (list_octets defects) ≡ defects
listed_again defects f =
    let count : length (list_octets defects) / 12 ≡ length defects = omega (arith, length_list defects) in
    rw count (listed_behind defects [] 0 refl f)

-- ---- the calls

pub record Told (s : Setup) (octets lent' : List ℕ) (count cylinder head : ℕ) : Type 0 where
  pub limits : within_limits s ≡ true
  pub accepted : WithoutOffence true s octets
  pub count_is : count ≡ length (defects_of s octets)
  pub cylinder_is : cylinder ≡ (value_of s octets).cylinder
  pub head_is : head ≡ (value_of s octets).head
  pub listed : take (12 * count) lent' ≡ list_octets (defects_of s octets)

pub told : (s : Setup) (octets lent lent' : List ℕ) (count cylinder head : ℕ) → DecodedMap s octets lent lent' (Ok (map_told count cylinder head))
    → Told s octets lent' count cylinder head
told s octets lent lent' count cylinder head d =
    let o = decode_offence s octets lent in
    let defects = defects_of s octets in
    let (free, map) = value_told o (map_of s octets) (map_told count cylinder head) d.answer in
    let (within, others) = none_head _ _ free in
    let many : count ≡ length defects = ap (λ (m : MapRead). m.count) map in
    let written : lent' ≡ written_over lent (list_octets defects) = d.slice ∙ rw free in
    let size : length (list_octets defects) ≡ 12 * count = omega (arith, length_list defects) in
    record {
      limits = not-false _ within;
      accepted = (none_head _ _ others).1;
      count_is = many;
      cylinder_is = ap (λ (m : MapRead). m.storage_cylinder) map;
      head_is = ap (λ (m : MapRead). m.storage_head) map;
      listed = rw written (take_at (list_octets defects) (drop (length (list_octets defects)) lent) (12 * count) size);
    }

module _ (s : Setup) (octets lent' : List ℕ) (count cylinder head : ℕ) (t : Told s octets lent' count cylinder head) (fitting : AllFitting (defects_of s octets))
    (encodable : is_encodable s (value_of s octets) ≡ true) (wide : 8 ≤ s.field1) where
  pub encoded_value : (before after : List ℕ) (answer : Result ℕ Refusal) → map_length s count ≤ length before
      → EncodedMap s cylinder head (take (12 * count) lent') before after answer
      → (answer ≡ Ok (map_length s count)) × (take (map_length s count) after ≡ map_octets s (value_of s octets))
  encoded_value before after answer room e =
      let v = value_of s octets in
      let list = list_octets v.defects in
      let e' : EncodedMap s v.cylinder v.head list before after answer = rw (t.listed, t.cylinder_is, t.head_is) at e in
      let again = listed_again v.defects fitting in
      let many : length list / 12 ≡ count = omega (arith, length_list v.defects, t.count_is) in
      let dozens : length list % 12 ≡ 0 = omega (arith, length_list v.defects) in
      let value : (not (eqb (length list % 12) 0) || not (is_encodable s (record { cylinder = v.cylinder; head = v.head; defects = defects_listed list }))) ≡ false =
      rw (eq-eqb _ _ dozens, again, encodable) in
      let free = none_given (encode_rows s v.cylinder v.head list (length before)) (not_f _ t.limits, (le-ltb (length before) (map_length s (length list / 12)) (rw many room), (value, tt))) in
      let slice : after ≡ written_over before (map_octets s v) = e'.slice ∙ rw (free, again) in
      let size = length-map s v wide ∙ ap (map_length s) (sym t.count_is) in
      (answer_only e'.answer (rw (free, many)), rw slice (take_at (map_octets s v) (drop (length (map_octets s v)) before) (map_length s count) size))
