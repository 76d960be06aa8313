-- The walk over the data fields of a map: which copy of which set each of them is, and what is judged of it.
use Rattle.std.specs.Prelude.{ℕ, zero, suc, ◌+◌, ◌*◌, Bool, true, false, not, ◌&&◌, List, [], ◌∷◌, ◌++◌, eqb, ltb, leb, length, take, drop}
use Rattle.laws.specs.Pick.{pick}
use Rattle.parts.specs.declared.setup.Setup.{Setup}
use Rattle.defects.specs.Offence.{Test, ◌at◌when◌}
use Rattle.defects.specs.Defect.{behind_all}
use Rattle.defects.specs.Field.{front_of, is_last, is_ignored, defects_in}
use Rattle.defects.specs.Place.{field_octets, data_fields}
use Rattle.defects.specs.Judging.{field_tests}
use Rattle.defects.specs.declared.defect.Defect.{Defect}
use Rattle.defects.specs.declared.front.Front.{Front}
use Rattle.defects.specs.declared.walk.Walk.{Walk}

-- Before the first data field: copy 0 of set 0 is due.
abbrev pub outset : Walk
outset = record { set = 0; copy = 0; original = 0; sets = 0; cylinder = 0; head = 0; last = false }

-- The map ends behind the third copy of its last set.
abbrev pub is_ended : Walk → Bool
is_ended w = w.last && eqb w.copy 0

-- Behind copy 0: copy 1 is due, and what the set's data fields tell.
abbrev pub after_original : Walk → ℕ → Front → Walk
after_original w k front =
    record {
      set = w.set;
      copy = 1;
      original = k;
      sets = front.sets;
      cylinder = front.cylinder;
      head = front.head;
      last = is_last front.flags;
    }

-- "recorded error free 3 times sequentially": behind copy 1 copy 2 is due, behind copy 2 the next set.
abbrev pub after_copy : Walk → Walk
after_copy w =
    record {
      set = pick (eqb w.copy 2) (w.set + 1) w.set;
      copy = pick (eqb w.copy 2) 0 2;
      original = w.original;
      sets = w.sets;
      cylinder = w.cylinder;
      head = w.head;
      last = w.last;
    }

-- "any data fields with read errors" are passed over.
unfoldable pub after : Walk → ℕ → List ℕ → Walk
after w k field = pick (is_ignored field) w (pick (eqb w.copy 0) (after_original w k (front_of field)) (after_copy w))

-- Data field k of a string of octets.
unfoldable pub field_at : Setup → List ℕ → ℕ → List ℕ
field_at s octets k = take (field_octets s) (drop (k * field_octets s) octets)

-- What is due at data field k. Behind its end a map goes no further.
unfoldable pub walk_at : Setup → List ℕ → ℕ → Walk
walk_at s octets zero = outset
walk_at s octets (suc k) = let w = walk_at s octets k in pick (is_ended w) w (after w k (field_at s octets k))

-- Data field k begins a set.
abbrev pub is_original : Walk → List ℕ → Bool
is_original w field = not (is_ended w) && not (is_ignored field) && eqb w.copy 0

-- The defects that the data fields before data field k list, each set once.
unfoldable pub defects_before : Setup → List ℕ → ℕ → List Defect
defects_before s octets zero = []
defects_before s octets (suc k) =
    let field = field_at s octets k in
    defects_before s octets k ++ pick (is_original (walk_at s octets k) field) (defects_in field) []

-- The tests at data field k: octets behind the map's end, where nothing may follow it; no further data field; not a whole one; its own.
unfoldable pub tests_at : Bool → Setup → List ℕ → ℕ → List Test
tests_at alone s octets k =
    let start = k * field_octets s in
    let w = walk_at s octets k in
    let field = field_at s octets k in
    let least = behind_all 0 (defects_before s octets k) in
    pick (is_ended w)
    (28 at start when (alone && ltb start (length octets)) ∷ [])
    (pick (leb (data_fields s) k)
    (16 at start when true ∷ [])
    (17 at start when ltb (length octets) (start + field_octets s)
    ∷ pick (is_ignored field) [] (field_tests s w least start (field_at s octets w.original) field)))

-- Those of so many data fields, from data field k on.
unfoldable pub tests_from : Bool → Setup → List ℕ → ℕ → ℕ → List Test
tests_from alone s octets k zero = []
tests_from alone s octets k (suc count) = tests_at alone s octets k ++ tests_from alone s octets (suc k) count

-- All tests of a map, up to where the last cylinder ends.
abbrev pub map_tests : Bool → Setup → List ℕ → List Test
map_tests alone s octets = tests_from alone s octets 0 (suc (data_fields s))
