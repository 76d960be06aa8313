-- `specs/Plain` proved: what an encoding gives is in the plain spelling, and so is every decoded map that encodes to itself.
-- Assumes nothing.
use Prim.Native.Nat.{ℕ, zero, suc, ◌+◌, ◌-◌, ◌*◌, ◌/◌, ◌%◌, ◌<◌, ◌≤◌}
use mathlib.Core.Path.{◌≡◌, refl, sym, ap, ◌∙◌}
use mathlib.Core.Bool.{Bool, true, false, true≢false}
use mathlib.Core.List.{List, [], ◌∷◌, ◌++◌}
use mathlib.Core.Logic.{◌↔◌}
use native.Mathlib.Nat.{add-zero}
use native.Mathlib.Omega.{arith}
use borrow.Author.Tests.{eqb-true, eqb-false, ltb-true, ltb-false}
use lib.Dec.{eqb, ltb}
use lib.ListN.{length, take, drop, length-take, length-drop}
use lib.Seq.{length-take-le}
use Rattle.laws.specs.Octets.{AllOctets}
use Rattle.laws.proofs.Pick.{cases}
use Rattle.parts.specs.Setup.{within_limits}
use Rattle.parts.specs.declared.setup.Setup.{Setup}
use Rattle.defects.specs.Offence.{no_offence, first_of}
use Rattle.defects.specs.Defect.{behind_all}
use Rattle.defects.specs.Field.{front_of, is_last, is_ignored, slots, defects_from, defects_in}
use Rattle.defects.specs.Place.{field_octets, data_fields}
use Rattle.defects.specs.Walk.{is_ended, field_at, walk_at, is_original, defects_before, map_tests}
use Rattle.defects.specs.Decoding.{map_told, DecodedMap}
use Rattle.defects.specs.Encoding.{Value, defects_of_set, defects_before_set, is_unordered, data_field, map_octets, map_length, EncodedMap}
use Rattle.defects.specs.RoundTrip.{AllFitting}
use Rattle.defects.specs.Plain.{value_of, PlainSet, Plain, EncodeDecode}
use Rattle.defects.specs.declared.defect.Defect.{Defect}
use Rattle.defects.specs.declared.walk.Walk.{Walk}
use Rattle.refusals.specs.declared.refusal.Refusal.{Refusal}
use Rattle.std.specs.Prelude.{Result, Ok}
use Rattle.defects.proofs.EntriesLeft.{entries_listed}
use Rattle.defects.proofs.Listed.{all_fitting}
use Rattle.defects.proofs.WalkSteps.{begins_set}
use Rattle.defects.proofs.DecodedValue.{value_encodable}
use Rattle.defects.proofs.SetsFor.{begun_before}
use Rattle.defects.proofs.EncodableValue.{sets, Encodable, encodable}
use Rattle.defects.proofs.EncodedField.{front_written, defects_written}
use Rattle.defects.proofs.EncodedMap.{Begins, map_alone}
use Rattle.defects.proofs.EncodedWalk.{set_due, original_due, is_ended_lem, last_told, not_ignored, original_at, at_original, at_second, at_third, behind_end}
use Rattle.defects.proofs.EncodedTests.{flagged_told}
use Rattle.defects.proofs.Fields.{field_octets_lem}
use Rattle.defects.proofs.PlainCalls.{told, encoded_value}
use Rattle.defects.proofs.PlainSpelling.{plain_spelling}

-- ---- decoded numbers fit their octets

fitting_append : (a b : List Defect) → AllFitting a → AllFitting b → AllFitting (a ++ b)
fitting_append [] b p q = q
fitting_append (d ∷ a) b p q = (p.0, fitting_append a b p.1 q)

fitting_from : (field : List ℕ) → AllOctets field → (i left : ℕ) → AllFitting (defects_from field i left)
fitting_from field all i left = rw (entries_listed field i left) (all_fitting field all i (length (defects_from field i left)))

fitting_before : (s : Setup) (octets : List ℕ) → AllOctets octets → (k : ℕ) → AllFitting (defects_before s octets k)
unfolding defects_before
fitting_before s octets all zero = tt
fitting_before s octets all (suc k) =
    let field = field_at s octets k in
    fitting_append (defects_before s octets k) _ (fitting_before s octets all k)
    (cases AllFitting (is_original (walk_at s octets k) field) (λ begins. fitting_from field (field_octets_lem s octets k all) 14 _) (λ other. tt))

-- ---- the sets of a value

module _ (s : Setup) (v : Value) where
  full_set : (set : ℕ) → suc set < sets s v → length (defects_of_set s v set) ≡ slots (field_octets s)
  full_set set h =
      let (some, more) = begun_before s (length v.defects) set h in
      let behind = drop (set * slots (field_octets s)) v.defects in
      length-take-le (slots (field_octets s)) behind (simp length-drop (omega arith))

  some_in_set : (set : ℕ) → set < sets s v → 0 < set → 0 < length (defects_of_set s v set)
  some_in_set zero h positive = absurd (omega arith)
  some_in_set (suc set) h positive =
      let (some, more) = begun_before s (length v.defects) set h in
      simp (length-take, length-drop) (omega arith)

-- ---- a map that is its value's encoding

module _ (s : Setup) (v : Value) (e : Encodable s v) (octets : List ℕ) (b : Begins s v octets) where
  in_map : (k : ℕ) → is_ended (walk_at s octets k) ≡ false → k < 3 * sets s v
  in_map k going = by_test (ltb k (3 * sets s v)) refl
    where
      by_test : (test : Bool) → ltb k (3 * sets s v) ≡ test → k < 3 * sets s v
      by_test true t = ltb-true _ _ t
      by_test false t =
          let split : 3 * sets s v + (k - 3 * sets s v) ≡ k = omega (arith, ltb-false k (3 * sets s v) t) in
          let there = rw split at (behind_end s v e octets b (k - 3 * sets s v)).walk in
          absurd (true≢false (sym (is_ended_lem s v (sets s v) e.some_set refl) ∙ ap is_ended (sym there) ∙ going))

  no_field_ignored : (k : ℕ) → is_ended (walk_at s octets k) ≡ false → is_ignored (field_at s octets k) ≡ false
  no_field_ignored k going =
      let few = in_map k going in
      let split : 3 * (k / 3) + k % 3 ≡ k = omega arith in
      let field : field_at s octets k ≡ data_field s v (k / 3) (k % 3) = rw split at (b.fields (k / 3) (k % 3) (omega arith) (omega arith)) in
      rw field (not_ignored s v e (k / 3) (k % 3) (omega arith))

  -- a set begins at every third
  copy_due : (set copy : ℕ) → set < sets s v → copy < 3 → (walk_at s octets (3 * set + copy)).copy ≡ copy
  copy_due set zero h few = rw add-zero (ap (λ (w : Walk). w.copy) (at_original s v e octets b set (omega arith)).walk ∙ original_due s v set)
  copy_due set (suc zero) h few = ap (λ (w : Walk). w.copy) (at_second s v e octets b set h).walk
  copy_due set (suc (suc zero)) h few = ap (λ (w : Walk). w.copy) (at_third s v e octets b set h).walk
  copy_due set (suc (suc (suc copy))) h few = absurd (omega arith)

  begins_at : (k : ℕ) → is_original (walk_at s octets k) (field_at s octets k) ≡ true → (3 * (k / 3) ≡ k) × (k / 3 < sets s v)
  begins_at k begins =
      let (going, heard, first) = begins_set (walk_at s octets k) (field_at s octets k) begins in
      let few = in_map k going in
      let split : 3 * (k / 3) + k % 3 ≡ k = omega arith in
      let due : (walk_at s octets k).copy ≡ k % 3 = rw split at (copy_due (k / 3) (k % 3) (omega arith) (omega arith)) in
      let none : (walk_at s octets k).copy ≡ 0 = eqb-true _ _ first in
      (omega arith, omega arith)

  plain_at : (set : ℕ) → set < sets s v → PlainSet s octets (3 * set)
  plain_at set h =
      let field = original_at s v e octets b set h in
      let front = front_written s v e set 0 h in
      let these : defects_in (field_at s octets (3 * set)) ≡ defects_of_set s v set = ap defects_in field ∙ defects_written s v e set 0 in
      let r = at_original s v e octets b set (omega arith) in
      let unordered = is_unordered (behind_all 0 (defects_before_set s v set)) (defects_of_set s v set) in
      let last : is_last (front_of (field_at s octets (3 * set))).flags ≡ eqb (set + 1) (sets s v) = rw (field, front) (last_told (eqb (set + 1) (sets s v)) unordered) in
      record {
        full = λ other. let more = eqb-false (set + 1) (sets s v) (sym last ∙ other) in rw these (full_set s v set (omega arith));
        some_entry = λ is some. rw these (some_in_set s v set h (rw (r.walk, set_due s v set) at some));
        flagged = rw (these, r.listed, field, front) (flagged_told (eqb (set + 1) (sets s v)) unordered);
      }

  is_plain : Plain s octets
  is_plain =
      record {
        none_ignored = λ k inside going. no_field_ignored k going;
        sets = λ k inside begins. let (three, few) = begins_at k begins in rw three at (plain_at (k / 3) few);
      }

-- ---- both ways

module _ (s : Setup) (octets : List ℕ) (w : within_limits s ≡ true) (all : AllOctets octets) (accepted : first_of (map_tests true s octets) ≡ no_offence) where
  value_can : Encodable s (value_of s octets)
  value_can = encodable s (value_of s octets) w (value_encodable true s octets accepted) (fitting_before s octets all (data_fields s))

  encodes_to_itself : map_octets s (value_of s octets) ≡ octets → Plain s octets
  encodes_to_itself same = is_plain s (value_of s octets) value_can octets (rw same at (map_alone s (value_of s octets) value_can.field1))

  both_ways : map_octets s (value_of s octets) ≡ octets ↔ Plain s octets
  both_ways = (encodes_to_itself, λ plain. plain_spelling s octets accepted plain all)

of_the_calls : (s : Setup) (octets lent lent' before after : List ℕ) (count cylinder head : ℕ) (answer : Result ℕ Refusal)
    → AllOctets octets → DecodedMap s octets lent lent' (Ok (map_told count cylinder head))
    → map_length s count ≤ length before → EncodedMap s cylinder head (take (12 * count) lent') before after answer
    → (answer ≡ Ok (map_length s count)) × (take (map_length s count) after ≡ octets ↔ Plain s octets)
of_the_calls s octets lent lent' before after count cylinder head answer all d room e =
    let t = told s octets lent lent' count cylinder head d in
    let can = value_can s octets t.limits all t.accepted in
    let (is, written) =
    encoded_value s octets lent' count cylinder head t (fitting_before s octets all (data_fields s)) (value_encodable true s octets t.accepted) can.field1
    before after answer room e in
    (is, rw written (both_ways s octets t.limits all t.accepted))

pub encode_decode : EncodeDecode
encode_decode = record { encodable = value_encodable; encode_decode = both_ways; of_the_calls = of_the_calls }
