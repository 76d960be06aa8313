-- The tests at a data field: what is judged where the map goes on, and nothing where it has ended and nothing follows.
-- Assumes nothing.
use Prim.Native.Nat.{ℕ, zero, suc, ◌+◌, ◌*◌, ◌≤◌}
use mathlib.Core.Path.{◌≡◌, refl}
use mathlib.Core.Bool.{Bool, true, false, ◌&&◌}
use mathlib.Core.List.{List, [], ◌∷◌}
use native.Mathlib.Nat.{suc-mul}
use native.Mathlib.Omega.{arith}
use borrow.Author.Tests.{le-ltb, ltb-false}
use lib.Dec.{ltb, leb}
use lib.ListN.{length}
use Rattle.laws.specs.Pick.{pick}
use Rattle.parts.specs.declared.setup.Setup.{Setup}
use Rattle.defects.specs.Offence.{Test, ◌at◌when◌}
use Rattle.defects.specs.Defect.{behind_all}
use Rattle.defects.specs.Field.{is_ignored}
use Rattle.defects.specs.Judging.{field_tests}
use Rattle.defects.specs.Place.{field_octets, data_fields}
use Rattle.defects.specs.Walk.{is_ended, field_at, walk_at, defects_before, tests_at, tests_from}
use Rattle.defects.proofs.Offences.{Passed, end, next}
use Rattle.defects.proofs.WalkSteps.{still_ended}

-- what is judged of data field k itself
abbrev pub tests_of : Setup → List ℕ → ℕ → List Test
tests_of s octets k =
    let w = walk_at s octets k in
    field_tests s w (behind_all 0 (defects_before s octets k)) (k * field_octets s) (field_at s octets w.original) (field_at s octets k)

-- those before the map's end
abbrev pub due_tests : Setup → List ℕ → ℕ → List Test
due_tests s octets k =
    pick (leb (data_fields s) k)
    (16 at k * field_octets s when true ∷ [])
    (17 at k * field_octets s when ltb (length octets) (k * field_octets s + field_octets s) ∷ pick (is_ignored (field_at s octets k)) [] (tests_of s octets k))

-- that behind it
abbrev pub behind_test : Bool → Setup → List ℕ → ℕ → Test
behind_test alone s octets k = 28 at k * field_octets s when (alone && ltb (k * field_octets s) (length octets))

module _ (alone : Bool) (s : Setup) (octets : List ℕ) (k : ℕ) where
  pub tests_going : is_ended (walk_at s octets k) ≡ false → tests_at alone s octets k ≡ due_tests s octets k
  unfolding tests_at pick
  tests_going e = rw e

  pub tests_ended : is_ended (walk_at s octets k) ≡ true → tests_at alone s octets k ≡ behind_test alone s octets k ∷ []
  unfolding tests_at pick
  tests_ended e = rw e

-- where nothing follows, nothing follows further on
further : (alone : Bool) (a b size : ℕ) → a ≤ b → (alone && ltb a size) ≡ false → (alone && ltb b size) ≡ false
further true a b size h e = le-ltb b size (omega (arith, ltb-false a size e))
further false a b size h e = refl

pub none_behind : (alone : Bool) (s : Setup) (octets : List ℕ) (k count : ℕ) → is_ended (walk_at s octets k) ≡ true → (behind_test alone s octets k).holds ≡ false
    → Passed (tests_from alone s octets k count)
unfolding tests_from
none_behind alone s octets k zero e h = end
none_behind alone s octets k (suc count) e h =
    let below = further alone (k * field_octets s) (suc k * field_octets s) (length octets) (omega (arith, suc-mul k (field_octets s))) h in
    rw (tests_ended alone s octets k e) (next h (none_behind alone s octets (suc k) count (still_ended s octets k e) below))
