-- The first offence of a map is the one with the least offset, and at one offset the one with the lower number.
-- Assumes nothing.
use Prim.Native.Nat.{ℕ, zero, suc, ◌+◌, ◌*◌, ◌<◌, ◌≤◌}
use mathlib.Core.Path.{◌≡◌}
use mathlib.Core.Bool.{Bool, false, not}
use mathlib.Core.List.{List, [], ◌∷◌, ◌++◌}
use native.Mathlib.Omega.{arith}
use borrow.Author.Tests.{ltb-false, leb-false, not-false}
use lib.Dec.{ltb, leb}
use lib.ListN.{length}
use Rattle.laws.specs.Pick.{pick}
use Rattle.laws.proofs.Pick.{either, cases}
use Rattle.parts.specs.Setup.{within_limits}
use Rattle.parts.specs.declared.setup.Setup.{Setup}
use Rattle.parts.proofs.Bounds.{limits}
use Rattle.defects.specs.Offence.{Test, ◌at◌when◌}
use Rattle.defects.specs.Defect.{behind_all}
use Rattle.defects.specs.Field.{is_ignored}
use Rattle.defects.specs.Place.{field_octets, data_fields}
use Rattle.defects.specs.Walk.{is_ended, field_at, walk_at, defects_before, tests_at, tests_from, map_tests}
use Rattle.defects.specs.Exactly.{GivenAt, Least}
use Rattle.defects.proofs.TestsAt.{tests_of}
use Rattle.defects.proofs.TestOrder.{each_append, From, from_lower, Leads, Span, wider, least_of, ahead, lead, join, field_from, field_span}
use Rattle.defects.proofs.Fields.{some_field, field_length}

-- those of data field k itself, none where it is ignored
abbrev own : Setup → List ℕ → ℕ → List Test
own s octets k = pick (is_ignored (field_at s octets k)) [] (tests_of s octets k)

own_from : (s : Setup) (octets : List ℕ) (k : ℕ) → From (k * field_octets s) 18 (own s octets k)
own_from s octets k =
    let w = walk_at s octets k in
    let start = k * field_octets s in
    either (From start 18) (is_ignored (field_at s octets k)) tt
    (field_from s w (behind_all 0 (defects_before s octets k)) start (field_at s octets w.original) (field_at s octets k))

own_span : (s : Setup) (octets : List ℕ) (k : ℕ) → k < data_fields s → k * field_octets s + field_octets s ≤ length octets
    → Span (k * field_octets s) (suc k * field_octets s) (tests_of s octets k)
own_span s octets k inside whole =
    let w = walk_at s octets k in
    let size = field_length s octets k whole in
    let long : 16 ≤ length (field_at s octets k) = omega (arith, some_field s k inside) in
    wider (omega arith) (omega arith)
    (field_span s w (behind_all 0 (defects_before s octets k)) (k * field_octets s) (field_at s octets w.original) (field_at s octets k) long)

at_from : (alone : Bool) (s : Setup) (octets : List ℕ) (k : ℕ) → From (k * field_octets s) 16 (tests_at alone s octets k)
unfolding tests_at
at_from alone s octets k =
    let start = k * field_octets s in
    either (From start 16) (is_ended (walk_at s octets k)) (omega arith)
    (either (From start 16) (leb (data_fields s) k) (omega arith) (omega arith, from_lower start 16 start 18 (own s octets k) (omega arith) (omega arith) (own_from s octets k)))

pub from_on : (alone : Bool) (s : Setup) (octets : List ℕ) (k count low : ℕ) → low ≤ k * field_octets s → From low 16 (tests_from alone s octets k count)
unfolding tests_from
from_on alone s octets k zero low h = tt
from_on alone s octets k (suc count) low h =
    each_append _ (tests_at alone s octets k) (tests_from alone s octets (suc k) count)
    (from_lower low 16 (k * field_octets s) 16 (tests_at alone s octets k) h (omega arith) (at_from alone s octets k)) (from_on alone s octets (suc k) count low (omega arith))

module _ (alone : Bool) (s : Setup) (octets : List ℕ) (some : 1 ≤ s.field1) where
  -- a data field and what follows it
  own_leads : (k : ℕ) (rest : List Test) → (leb (data_fields s) k ≡ false) → ltb (length octets) (k * field_octets s + field_octets s) ≡ false
      → From (suc k * field_octets s) 16 rest → Leads rest → Leads (own s octets k ++ rest)
  own_leads k rest inside whole from leads =
      let span = own_span s octets k (leb-false _ _ inside) (ltb-false _ _ whole) in
      either (λ (tests : List Test). Leads (tests ++ rest)) (is_ignored (field_at s octets k)) leads
      (join (suc k * field_octets s) 16 (tests_of s octets k) rest span.below span.leads from leads)

  leads_on : (k count : ℕ) → Leads (tests_from alone s octets k count)
  unfolding tests_from tests_at
  leads_on k zero = tt
  leads_on k (suc count) =
      let start = k * field_octets s in
      let rest = tests_from alone s octets (suc k) count in
      let from : From (suc k * field_octets s) 16 rest = from_on alone s octets (suc k) count (suc k * field_octets s) (omega arith) in
      let leads = leads_on (suc k) count in
      let P : List Test → Type 0 = λ tests. Leads (tests ++ rest) in
      cases P (is_ended (walk_at s octets k))
      (λ end. lead _ (suc k * field_octets s) 16 rest (omega arith) (λ e. absurd (omega arith)) from (λ fails. leads)) (λ going.
      cases P (leb (data_fields s) k)
      (λ none. lead _ (suc k * field_octets s) 16 rest (omega arith) (λ e. absurd (omega arith)) from (λ fails. leads))
      (λ inside. (
        λ short. each_append _ (own s octets k) rest (ahead 17 start start 18 (own s octets k) (omega arith) (λ e. omega arith) (own_from s octets k))
            (ahead 17 start (suc k * field_octets s) 16 rest (omega arith) (λ e. absurd (omega arith)) from),
        λ whole. own_leads k rest inside whole from leads,
      )))

-- behind 9 and 10, which lie at offset 0
pub least_first : (alone : Bool) (s : Setup) (octets : List ℕ) (short : Bool) (n offset : ℕ)
    → let tests = 9 at 0 when not (within_limits s) ∷ 10 at 0 when short ∷ map_tests alone s octets in
    GivenAt n offset tests → Least n offset tests
least_first alone s octets short n offset =
    let map = map_tests alone s octets in
    let lent = 10 at 0 when short in
    let from : From 0 10 map = from_lower 0 10 0 16 map (omega arith) (omega arith) (from_on alone s octets 0 (suc (data_fields s)) 0 (omega arith)) in
    least_of
    (lead (9 at 0 when not (within_limits s)) 0 10 (lent ∷ map) (omega arith) (λ e. omega arith) (omega arith, from)
    (λ within. lead lent 0 10 map (omega arith) (λ e. omega arith) from
    (λ long. leads_on alone s octets (limits s (not-false _ within)).some_field1 0 (suc (data_fields s)))))
