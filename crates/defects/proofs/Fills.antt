-- Copy 0 of a set, from what its makers promise: the octets in front, the entries and the zeros behind them.
-- Assumes nothing.
use Prim.Native.Nat.{ℕ, ◌+◌, ◌-◌, ◌*◌}
use mathlib.Core.Path.{◌≡◌, sym, ap, ◌∙◌}
use mathlib.Core.List.{List, ◌++◌}
use native.Mathlib.Omega.{arith}
use lib.Dec.{eqb}
use lib.ListN.{length, take, drop, replicate}
use lib.Seq.{take-add}
use Rattle.laws.specs.Lists.{written_over, written_at}
use Rattle.laws.specs.Octets.{AllOctets}
use Rattle.parts.specs.declared.setup.Setup.{Setup}
use Rattle.defects.specs.Defect.{list_octets, behind_all}
use Rattle.defects.specs.Field.{slots}
use Rattle.defects.specs.Place.{field_octets}
use Rattle.defects.specs.Encoding.{list_from, defects_before_set, defects_of_set, flags_for, set_flags, front_octets, body_octets}
use Rattle.defects.specs.EncodeSteps.{value_in, Due, Ordered, octets_in_front, Filled}
use Rattle.defects.specs.declared.body.Job.{Job}
use Rattle.defects.specs.declared.body.Order.{Order}
use Rattle.defects.specs.declared.body.Run.{Run}
use Rattle.defects.specs.declared.front.Front.{Front}
use Rattle.defects.proofs.Listed.{listed_octets, behind_parts}
use Rattle.defects.proofs.Plans.{plan, RunKnown}
use Rattle.defects.proofs.Bodies.{padded_to_the_end, length_front, entries_fit}

-- the front that the code writes
abbrev pub front_made : Setup → Job → ℕ → ℕ → Front
front_made s job set flags =
    record { count = field_octets s - 2; flags = flags; copy = 0; sets = job.sets; set = set; cylinder = job.cylinder; head = job.head }

module _ {s : Setup} {job : Job} {octets : List ℕ} {set least : ℕ} (due : Due s job octets set least) where
  -- one set more
  next_least : behind_all least (defects_of_set s (value_in job octets) set) ≡ behind_all 0 (defects_before_set s (value_in job octets) (set + 1))
  next_least =
      let each = slots (field_octets s) in
      let defects = (value_in job octets).defects in
      let more : (set + 1) * each ≡ set * each + each = omega arith in
      rw (due.above, more, take-add (set * each) each defects) (sym (behind_parts 0 (take (set * each) defects) (take each (drop (set * each) defects))))

  front_is : (flags : ℕ) → flags ≡ set_flags s (value_in job octets) set → octets_in_front (front_made s job set flags) ≡ front_octets s (value_in job octets) set 0
  unfolding octets_in_front front_octets
  front_is flags e = rw (e, (plan due.planned).sets)

  pub filled : (run : Run) (order : Order) (flags : ℕ) (field₀ field : List ℕ) → length field₀ ≡ field_octets s → RunKnown s job octets set run → AllOctets octets
      → Ordered least (list_from octets run.at run.count) order → flags ≡ flags_for (eqb (set + 1) job.sets) order.unordered
      → (let made = written_over field₀ (octets_in_front (front_made s job set flags)) in
      let entries = take (12 * run.count) (drop run.at octets) in
      field ≡ written_at made 14 (entries ++ replicate (length made - 14 - length entries) 0))
      → Filled s job octets set field order.least
  unfolding body_octets
  filled run order flags field₀ field size known all ordered f e =
      let v = value_in job octets in
      let entries = list_octets (defects_of_set s v set) in
      let told : flags ≡ set_flags s v set = f ∙ rw (ordered.unordered, ← known.listed, due.above, (plan due.planned).sets) in
      let there : take (12 * run.count) (drop run.at octets) ≡ entries =
      sym (listed_octets octets all run.at run.count known.within) ∙ ap list_octets (sym known.listed) in
      record {
        body = e ∙ rw (front_is flags told, there) (rw size at (padded_to_the_end field₀ (front_octets s v set 0) entries (length_front s v set 0) (rw size (entries_fit s v set (plan due.planned).field1))));
        next = ordered.next ∙ ap (behind_all least) (sym known.listed) ∙ next_least;
      }
