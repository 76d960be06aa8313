-- `specs/OnTheCylinder` proved: a map put on the last cylinder stands there data field by data field and is read off as it was put; to read is to decode.
-- Assumes nothing.
use Prim.Native.Nat.{ℕ, suc, ◌+◌, ◌*◌, ◌/◌, ◌<◌, ◌≤◌}
use mathlib.Core.Path.{◌≡◌, refl, sym, ap, ap₂, ◌∙◌}
use mathlib.Core.Bool.{true, false, ◌||◌}
use mathlib.Core.List.{List}
use mathlib.Core.Logic.{◌↔◌}
use native.Mathlib.Nat.{mul-le-mul_right}
use native.Mathlib.Omega.{arith}
use borrow.Author.Tests.{le-ltb}
use lib.Dec.{eqb, ltb}
use lib.ListN.{length, get_or, take}
use lib.Seq.{take_all}
use Rattle.laws.specs.Pick.{pick}
use Rattle.laws.specs.Lists.{written_over}
use Rattle.laws.proofs.Pick.{not_f}
use Rattle.parts.specs.Setup.{within_limits, all_words}
use Rattle.parts.specs.declared.setup.Setup.{Setup}
use Rattle.std.specs.Prelude.{Result, Ok}
use Rattle.std.proofs.Math.Option.{Option}
use Rattle.defects.specs.Offence.{Found, no_offence, offence_at, offence_or, unless_found, number_in}
use Rattle.defects.specs.Defect.{list_octets}
use Rattle.defects.specs.Place.{field_octets, data_fields}
use Rattle.defects.specs.Walk.{field_at}
use Rattle.defects.specs.Decoding.{decode_offence, defects_of, map_of, DecodedMap}
use Rattle.defects.specs.Encoding.{Value, map_octets}
use Rattle.defects.specs.RoundTrip.{tells_of}
use Rattle.defects.specs.Sectors.{sector_field, last_cylinder, read_offence, read_in, ReadMap}
use Rattle.defects.specs.OnTheCylinder.{CanBePut, fields_for, with_map, is_of_field, as_read, OnTheCylinder}
use Rattle.defects.specs.declared.decoding.MapRead.{MapRead}
use Rattle.defects.specs.declared.defect.Defect.{Defect}
use Rattle.defects.specs.declared.offence.Offence.{Offence}
use Rattle.defects.proofs.Fields.{field_length, same_beginning}
use Rattle.defects.proofs.Offences.{next, none_found, all_passed}
use Rattle.defects.proofs.EncodableValue.{Encodable, encodable}
use Rattle.defects.proofs.EncodedMap.{Begins, length-map, map_alone}
use Rattle.defects.proofs.EncodedOctets.{map_is_octets}
use Rattle.defects.proofs.RoundTrip.{told_behind}
use Rattle.defects.proofs.SectorFields.{field_of_cylinder, length_cylinder}
use Rattle.defects.proofs.ReadIsDecode.{but_for_28, read_is_decode}
use Rattle.defects.proofs.CutMap.{cut_map}
use Rattle.defects.proofs.StoredFields.{length_stored, stored_outside, stored_field}

module _ (s : Setup) (v : Value) (sectors : List ℕ) (c : CanBePut s v sectors) where
  e : Encodable s v
  e = encodable s v c.limits c.value c.fitting

  whole : (k : ℕ) → k < fields_for s v → length (field_at s (map_octets s v) k) ≡ field_octets s
  whole k h = field_length s (map_octets s v) k (omega (arith, mul-le-mul_right {m = suc k} (field_octets s) h, length-map s v e.field1))

  as_many : length (with_map s v sectors) ≡ length sectors
  as_many = length_stored s (map_octets s v) (fields_for s v) c.limits e.room whole sectors 0 (fields_for s v) c.room (omega arith)

  in_place_lem : (k : ℕ) → k < fields_for s v → sector_field s (with_map s v sectors) k ≡ field_at s (map_octets s v) k
  in_place_lem k h = stored_field s (map_octets s v) (fields_for s v) c.limits e.room whole sectors k c.room h (map_is_octets s v)

  others : (i : ℕ) → ((k : ℕ) → k < fields_for s v → is_of_field s k i ≡ false) → get_or (with_map s v sectors) i 0 ≡ get_or sectors i 0
  others i out =
      stored_outside s (map_octets s v) (fields_for s v) c.limits e.room whole sectors 0 (fields_for s v) i c.room (omega arith)
      (λ k low high. out k (omega arith))

  in_cylinder : (k : ℕ) → k < fields_for s v → field_at s (last_cylinder s (with_map s v sectors)) k ≡ field_at s (map_octets s v) k
  in_cylinder k h = field_of_cylinder s (with_map s v sectors) c.limits (omega (arith, as_many, c.room)) k (omega (arith, e.room)) ∙ in_place_lem k h

  begins_with_map : take (length (map_octets s v)) (last_cylinder s (with_map s v sectors)) ≡ map_octets s v
  begins_with_map =
      let long = length-map s v e.field1 in
      rw long (same_beginning s _ _ (fields_for s v) in_cylinder ∙ take_all (fields_for s v * field_octets s) (map_octets s v) (omega arith))

  begins : Begins s v (last_cylinder s (with_map s v sectors))
  begins =
      let map = map_alone s v e.field1 in
      record {
        fields = λ set copy h l. in_cylinder (3 * set + copy) (omega arith) ∙ map.fields set copy h l;
        long = omega (arith, length_cylinder s (with_map s v sectors) c.limits (omega (arith, as_many, c.room)), mul-le-mul_right (field_octets s) e.room);
      }

  read_back : (lent : List ℕ) → data_fields s * field_octets s / 3 ≤ length lent
      → (read_in s (with_map s v sectors) lent ≡ Ok (tells_of v)) × (defects_of s (last_cylinder s (with_map s v sectors)) ≡ v.defects)
  unfolding pick
  read_back lent room =
      let after = with_map s v sectors in
      let (none, told, listed) = told_behind s v (last_cylinder s after) e begins in
      let held : (ltb (length after) (all_words s) || ltb (length lent) (data_fields s * field_octets s / 3)) ≡ false =
      rw (le-ltb (length after) (all_words s) (omega (arith, as_many, c.room))) (le-ltb (length lent) (data_fields s * field_octets s / 3) room) in
      let free : read_offence s after lent ≡ no_offence = none_found (next (not_f (within_limits s) c.limits) (next held (all_passed _ none))) in
      (rw free (ap Ok told), listed)

-- ---- reading and decoding

-- the same offence, and the same told
same_promise : (s : Setup) (sectors octets before after : List ℕ) (r : Result MapRead Offence) → read_offence s sectors before ≡ decode_offence s octets before
    → map_of s (last_cylinder s sectors) ≡ map_of s octets → defects_of s (last_cylinder s sectors) ≡ defects_of s octets
    → ReadMap s sectors before after r ↔ DecodedMap s octets before after r
same_promise s sectors octets before after r same told listed =
    let answers = ap₂ (λ (o : Option Found) (map : MapRead). offence_or o map) same told in
    let slices = ap₂ (λ (o : Option Found) (defects : List Defect). unless_found o before (written_over before (list_octets defects))) same listed in (
      λ read. record { answer = read.answer ∙ answers; slice = read.slice ∙ slices },
      λ decoded. record { answer = decoded.answer ∙ sym answers; slice = decoded.slice ∙ sym slices },
    )

module _ (s : Setup) (sectors before after : List ℕ) (r : Result MapRead Offence) (small : within_limits s ≡ true) (room : all_words s ≤ length sectors) where
  promise_whole : eqb (number_in (decode_offence s (last_cylinder s sectors) before)) 28 ≡ false
      → ReadMap s sectors before after r ↔ DecodedMap s (last_cylinder s sectors) before after r
  unfolding pick
  promise_whole e = same_promise s sectors (last_cylinder s sectors) before after r (read_is_decode s sectors before small room ∙ rw e) refl refl

  promise_cut : (offset : ℕ) → decode_offence s (last_cylinder s sectors) before ≡ offence_at 28 offset
      → ReadMap s sectors before after r ↔ DecodedMap s (take offset (last_cylinder s sectors)) before after r
  unfolding pick
  promise_cut offset e =
      let (none, told, listed) = cut_map s (last_cylinder s sectors) before offset e in
      same_promise s sectors (take offset (last_cylinder s sectors)) before after r (read_is_decode s sectors before small room ∙ ap as_read e ∙ sym none)
      (sym told) (sym listed)

pub on_the_cylinder : OnTheCylinder
on_the_cylinder =
    record {
      as_many_words = as_many;
      each_in_its_place = in_place_lem;
      write_is_encode = begins_with_map;
      others_stay = others;
      read_after_write = λ s v sectors lent c room. read_back s v sectors c lent room;
      but_for_28 = but_for_28;
      read_is_decode = read_is_decode;
      same_promise = λ s sectors before after r small room e. promise_whole s sectors before after r small room e;
      cut_where_it_ends = cut_map;
      same_promise_cut = λ s sectors before after offset r small room e. promise_cut s sectors before after r small room offset e;
    }
