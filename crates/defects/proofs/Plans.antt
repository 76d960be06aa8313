-- The sets of a map that can be encoded: they fit the last cylinder, the defects of each are a run of the list, and each data field has its place.
-- Assumes nothing.
use Prim.Native.Nat.{ℕ, ◌+◌, ◌-◌, ◌*◌, ◌/◌, ◌<◌, ◌≤◌}
use mathlib.Core.Path.{◌≡◌, refl, sym, ap, ◌∙◌}
use mathlib.Core.Bool.{true}
use mathlib.Core.List.{List}
use native.Mathlib.Nat.{zero-add}
use native.Mathlib.Omega.{arith}
use borrow.Author.Tests.{leb-true}
use lib.Dec.{leb}
use lib.ListN.{length, drop}
use Rattle.laws.proofs.Tests.{and_l, and_r}
use Rattle.parts.specs.declared.setup.Setup.{Setup}
use Rattle.parts.proofs.Bounds.{Limits, limits}
use Rattle.defects.specs.Field.{slots}
use Rattle.defects.specs.Place.{field_octets, data_fields}
use Rattle.defects.specs.Walk.{field_at}
use Rattle.defects.specs.Encoding.{list_from, defects_listed, sets_for, defects_of_set, data_field, map_octets, fits, is_encodable}
use Rattle.defects.specs.EncodeSteps.{value_in, Planned, RunOf, AllNear}
use Rattle.defects.specs.declared.body.Job.{Job}
use Rattle.defects.specs.declared.body.Run.{Run}
use Rattle.defects.proofs.Fields.{some_field, few_fields}
use Rattle.defects.proofs.SetsFor.{some_set, first_of_set}
use Rattle.defects.proofs.EncodedMap.{length-map, map_alone}
use Rattle.defects.proofs.Listed.{length_listed, listed_drop, listed_take, near, near_dropped, near_taken}

-- ---- its sets

pub record Plan (s : Setup) (job : Job) (octets : List ℕ) : Type 0 where
  pub limits : Limits s
  pub field1 : 8 ≤ s.field1
  pub sets : job.sets ≡ sets_for s (length (value_in job octets).defects)
  pub fields : 3 * job.sets ≤ data_fields s
  pub few : data_fields s ≤ 8192
  pub first : (set : ℕ) → set < job.sets → set * slots (field_octets s) ≤ length octets / 12
  pub near : AllNear (defects_listed octets)

pub plan : {s : Setup} {job : Job} {octets : List ℕ} → Planned s job octets → Plan s job octets
unfolding is_encodable fits
plan {s} {job} {octets} p =
    let count = length octets / 12 in
    let v = value_in job octets in
    let l = limits s p.limits in
    let listed : length v.defects ≡ count = length_listed octets 0 count in
    let holds : fits s (length v.defects) ≡ true = search (and_l, and_r) in
    let fit : leb (3 * sets_for s count) (data_fields s) ≡ true = and_l _ _ (rw listed at holds) in
    let fields : 3 * job.sets ≤ data_fields s = rw p.sets (leb-true _ _ fit) in
    let some = some_set s count in
    record {
      limits = l;
      field1 = some_field s 0 (omega (arith, p.sets));
      sets = p.sets ∙ ap (sets_for s) (sym listed);
      fields = fields;
      few = few_fields s l;
      first = λ set h. first_of_set s count set (rw p.sets at h);
      near = near s v.defects l (search (and_l, and_r));
    }

pub record RunKnown (s : Setup) (job : Job) (octets : List ℕ) (set : ℕ) (r : Run) : Type 0 where
  pub within : r.at + 12 * r.count ≤ length octets
  pub few : 12 * r.count + 16 ≤ field_octets s
  pub listed : defects_of_set s (value_in job octets) set ≡ list_from octets r.at r.count
  pub near : AllNear (list_from octets r.at r.count)

pub run_known : {s : Setup} {job : Job} {octets : List ℕ} {set : ℕ} {r : Run} → Plan s job octets → set < job.sets → RunOf s set (length octets) r → RunKnown s job octets set r
run_known {s} {job} {octets} {set} {r} p h run =
    let each = slots (field_octets s) in
    let count = length octets / 12 in
    let first = p.first set h in
    let listed : defects_of_set s (value_in job octets) set ≡ list_from octets r.at r.count =
    rw (run.at, run.count, listed_drop octets 0 count (set * each), listed_take octets (0 + 12 * (set * each)) (count - set * each) each, zero-add) refl in
    record {
      within = rw (run.at, run.count) (omega arith);
      few = rw run.count (omega arith);
      listed = listed;
      near = rw listed at (near_taken each (drop (set * each) (defects_listed octets)) (near_dropped (set * each) (defects_listed octets) p.near));
    }

-- ---- its data fields

module _ {s : Setup} {job : Job} {octets : List ℕ} (p : Plan s job octets) where
  pub all_octets : length (map_octets s (value_in job octets)) ≡ 3 * job.sets * field_octets s
  all_octets = length-map s (value_in job octets) p.field1 ∙ ap (λ (n : ℕ). 3 * n * field_octets s) (sym p.sets)

  pub copy_there : {k : ℕ} (set copy : ℕ) → k ≡ 3 * set + copy → set < job.sets → copy < 3 → field_at s (map_octets s (value_in job octets)) k ≡ data_field s (value_in job octets) set copy
  copy_there set copy e h i = rw e ((map_alone s (value_in job octets) p.field1).fields set copy (rw p.sets at h) i)
