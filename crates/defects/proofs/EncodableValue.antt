-- What makes a value encodable, taken apart: the numbers fit, the sets hold all defects, and the last cylinder has data fields for them.
-- Assumes nothing.
use Prim.Native.Nat.{ℕ, zero, suc, ◌*◌, ◌≤◌, ◌<◌}
use mathlib.Core.Path.{◌≡◌}
use mathlib.Core.Bool.{true, false}
use mathlib.Core.List.{List, [], ◌∷◌}
use native.Mathlib.Omega.{arith}
use borrow.Author.Tests.{ltb-true, leb-true, not-true}
use lib.ListN.{length, take, drop}
use Rattle.laws.proofs.Tests.{and_l, and_r}
use Rattle.parts.specs.Setup.{within_limits}
use Rattle.parts.specs.declared.setup.Setup.{Setup}
use Rattle.parts.proofs.Bounds.{Limits, limits}
use Rattle.defects.specs.Defect.{is_blank}
use Rattle.defects.specs.DefectRoundTrip.{Fitting}
use Rattle.defects.specs.Field.{slots}
use Rattle.defects.specs.Place.{field_octets, data_fields}
use Rattle.defects.specs.Encoding.{Value, sets_for, is_listable, are_listable, fits, is_encodable}
use Rattle.defects.specs.RoundTrip.{AllFitting}
use Rattle.defects.specs.declared.defect.Defect.{Defect}
use Rattle.defects.proofs.Fields.{some_field, few_fields}
use Rattle.defects.proofs.SetsFor.{some_set, sets_hold}

-- ---- the entries

pub record Entry (s : Setup) (d : Defect) : Type 0 where
  pub fitting : Fitting d
  pub cylinder : d.cylinder < s.cylinders
  pub head : d.head < s.heads
  pub told : is_blank d ≡ false

abbrev pub AllEntries : Setup → List Defect → Type 0
AllEntries s [] = Unit
AllEntries s (d ∷ defects) = Entry s d × AllEntries s defects

entry : (s : Setup) (d : Defect) → Fitting d → is_listable s d ≡ true → Entry s d
unfolding is_listable
entry s d f e =
    record {
      fitting = f;
      cylinder = ltb-true d.cylinder s.cylinders (search (and_l, and_r));
      head = ltb-true d.head s.heads (search (and_l, and_r));
      told = not-true (is_blank d) (search (and_l, and_r));
    }

entries : (s : Setup) (defects : List Defect) → AllFitting defects → are_listable s defects ≡ true → AllEntries s defects
unfolding are_listable
entries s [] f e = tt
entries s (d ∷ defects) f e = (entry s d f.0 (and_l (is_listable s d) _ e), entries s defects f.1 (and_r (is_listable s d) _ e))

pub entries_taken : (s : Setup) (n : ℕ) (defects : List Defect) → AllEntries s defects → AllEntries s (take n defects)
entries_taken s zero defects e = tt
entries_taken s (suc n) [] e = tt
entries_taken s (suc n) (d ∷ defects) e = (e.0, entries_taken s n defects e.1)

pub entries_dropped : (s : Setup) (n : ℕ) (defects : List Defect) → AllEntries s defects → AllEntries s (drop n defects)
entries_dropped s zero defects e = e
entries_dropped s (suc n) [] e = tt
entries_dropped s (suc n) (d ∷ defects) e = entries_dropped s n defects e.1

-- ---- the sets

abbrev pub sets : Setup → Value → ℕ
sets s v = sets_for s (length v.defects)

-- ---- the value

pub record Encodable (s : Setup) (v : Value) : Type 0 where
  pub limits : Limits s
  pub field1 : 8 ≤ s.field1
  pub cylinder : v.cylinder < s.cylinders
  pub head : v.head < s.heads
  pub entries : AllEntries s v.defects
  pub some_set : 1 ≤ sets s v
  pub holds : length v.defects ≤ sets s v * slots (field_octets s)
  pub room : 3 * sets s v ≤ data_fields s
  pub few : data_fields s ≤ 8192

pub encodable : (s : Setup) (v : Value) → within_limits s ≡ true → is_encodable s v ≡ true → AllFitting v.defects → Encodable s v
unfolding is_encodable fits
encodable s v w e f =
    let l = limits s w in
    let room : 3 * sets s v ≤ data_fields s = leb-true (3 * sets s v) (data_fields s) (search (and_l, and_r)) in
    let one = some_set s (length v.defects) in
    record {
      limits = l;
      field1 = some_field s 0 (omega arith);
      cylinder = ltb-true v.cylinder s.cylinders (search (and_l, and_r));
      head = ltb-true v.head s.heads (search (and_l, and_r));
      entries = entries s v.defects f (search (and_l, and_r));
      some_set = one;
      holds = sets_hold s (length v.defects) (search (and_l, and_r));
      room = room;
      few = few_fields s l;
    }
