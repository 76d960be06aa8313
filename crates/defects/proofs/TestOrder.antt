-- The tests of a map are in the order of their offsets: one that holds first is not behind any other.
-- Assumes nothing.
use Prim.Native.Nat.{ℕ, zero, suc, ◌+◌, ◌-◌, ◌*◌, ◌<◌, ◌≤◌, max}
use mathlib.Core.Path.{◌≡◌, refl, sym, ◌∙◌}
use mathlib.Core.Bool.{Bool, true, false, not, true≢false}
use mathlib.Core.List.{List, [], ◌∷◌, ◌++◌}
use native.Mathlib.Omega.{arith}
use lib.Dec.{eqb}
use lib.ListN.{length, get_or}
use Rattle.laws.proofs.Pick.{either}
use Rattle.parts.specs.declared.setup.Setup.{Setup}
use Rattle.defects.specs.Offence.{Test, ◌at◌when◌, tests_over}
use Rattle.defects.specs.Defect.{behind}
use Rattle.defects.specs.Field.{front_of, is_flagged, slots, defects_in}
use Rattle.defects.specs.Judging.{opening_tests, later_tests, front_tests, entry_tests, list_tests, zero_test, same_test, padding_tests, crc_tests, field_tests}
use Rattle.defects.specs.Exactly.{GivenAt, here, later, Each, Least}
use Rattle.defects.specs.declared.defect.Defect.{Defect}
use Rattle.defects.specs.declared.front.Front.{Front}
use Rattle.defects.specs.declared.walk.Walk.{Walk}
use Rattle.defects.proofs.EntriesLeft.{entries_few}

-- ---- tests in order

pub each_append : (P : Test → Type 0) (a b : List Test) → Each P a → Each P b → Each P (a ++ b)
each_append P [] b p q = q
each_append P (test ∷ a) b p q = (p.0, each_append P a b p.1 q)

each_map : (P Q : Test → Type 0) → ((test : Test) → P test → Q test) → (tests : List Test) → Each P tests → Each Q tests
each_map P Q f [] p = tt
each_map P Q f (test ∷ tests) p = (f test p.0, each_map P Q f tests p.1)

-- none is before this place, nor has a lower number than this
abbrev pub From : ℕ → ℕ → List Test → Type 0
From low n tests = Each (λ test. (low ≤ test.offset) × (n ≤ test.number)) tests

abbrev pub Below : ℕ → List Test → Type 0
Below high tests = Each (λ test. test.offset < high) tests

-- number n at this offset is not behind any of them
abbrev pub Ahead : ℕ → ℕ → List Test → Type 0
Ahead n offset tests = Each (λ test. (offset ≤ test.offset) × (test.offset ≡ offset → n ≤ test.number)) tests

-- the first that holds is not behind any that follow it
abbrev pub Leads : List Test → Type 0
Leads [] = Unit
Leads (test ∷ tests) = (test.holds ≡ true → Ahead test.number test.offset tests) × (test.holds ≡ false → Leads tests)

pub least_of : {n offset : ℕ} {tests : List Test} → Leads tests → GivenAt n offset tests → Least n offset tests
least_of {n} {offset} l (here {test} {tests} e f h) = (
  λ holds. (omega arith, λ same. omega arith),
  each_map (λ other. (test.offset ≤ other.offset) × (other.offset ≡ test.offset → test.number ≤ other.number))
      (λ other. other.holds ≡ true → (offset ≤ other.offset) × (other.offset ≡ offset → n ≤ other.number))
      (λ other p holds. (omega (arith, p.0), λ same. omega (arith, p.1 (omega arith)))) tests (l.0 h),
)
least_of l (later {test} {tests} h g) = (λ holds. absurd (true≢false (sym holds ∙ h)), least_of (l.1 h) g)

pub ahead : (n offset low m : ℕ) (tests : List Test) → offset ≤ low → (low ≡ offset → n ≤ m) → From low m tests → Ahead n offset tests
ahead n offset low m tests h k =
    each_map (λ test. (low ≤ test.offset) × (m ≤ test.number)) (λ test. (offset ≤ test.offset) × (test.offset ≡ offset → n ≤ test.number))
    (λ test p. (omega arith, λ e. omega (arith, k (omega arith)))) tests

-- one test more, in front; tests in front of others that all lie behind them
pub lead : (test : Test) (low m : ℕ) (tests : List Test) → test.offset ≤ low → (low ≡ test.offset → test.number ≤ m) → From low m tests
    → (test.holds ≡ false → Leads tests) → Leads (test ∷ tests)
lead test low m tests h k from leads = (λ holds. ahead test.number test.offset low m tests h k from, leads)

pub join : (middle m : ℕ) (a b : List Test) → Below middle a → Leads a → From middle m b → Leads b → Leads (a ++ b)
join middle m [] b below p from q = q
join middle m (test ∷ a) b below p from q = (
  λ holds. each_append _ a b (p.0 holds) (ahead test.number test.offset middle m b (omega (arith, below.0)) (λ e. absurd (omega (arith, below.0))) from),
  λ fails. join middle m a b below.1 (p.1 fails) from q,
)

-- ---- offsets that rise from test to test

abbrev Rising : ℕ → List Test → Type 0
Rising low [] = Unit
Rising low (test ∷ tests) = (low ≤ test.offset) × Rising (suc test.offset) tests

rising_from : (low least : ℕ) (tests : List Test) → least ≤ low → Rising low tests → From least 0 tests
rising_from low least [] h r = tt
rising_from low least (test ∷ tests) h r = ((omega (arith, r.0), omega arith), rising_from (suc test.offset) least tests (omega (arith, r.0)) r.1)

rising : (low : ℕ) (tests : List Test) → Rising low tests → Leads tests
rising low [] r = tt
rising low (test ∷ tests) r =
    let next = suc test.offset in
    lead test next 0 tests (omega arith) (λ e. absurd (omega arith)) (rising_from next next tests (omega arith) r.1) (λ fails. rising next tests r.1)

-- ---- the tests of a data field

-- from one offset up to another
pub record Span (low high : ℕ) (tests : List Test) : Type 0 where
  pub from : From low 18 tests
  pub below : Below high tests
  pub leads : Leads tests

pub from_lower : (low n low' n' : ℕ) (tests : List Test) → low ≤ low' → n ≤ n' → From low' n' tests → From low n tests
from_lower low n low' n' tests h k = each_map (λ test. (low' ≤ test.offset) × (n' ≤ test.number)) (λ test. (low ≤ test.offset) × (n ≤ test.number)) (λ test p. omega arith) tests

below_higher : (high high' : ℕ) (tests : List Test) → high ≤ high' → Below high tests → Below high' tests
below_higher high high' tests h = each_map (λ test. test.offset < high) (λ test. test.offset < high') (λ test p. omega arith) tests

spans : {low middle high : ℕ} {a b : List Test} → low ≤ middle → middle ≤ high → Span low middle a → Span middle high b → Span low high (a ++ b)
spans {low} {middle} {high} {a} {b} h k p q =
    record {
      from = each_append _ a b p.from (from_lower low 18 middle 18 b h (omega arith) q.from);
      below = each_append _ a b (below_higher middle high a k p.below) q.below;
      leads = join middle 18 a b p.below p.leads q.from q.leads;
    }

pub wider : {low high low' high' : ℕ} {tests : List Test} → low' ≤ low → high ≤ high' → Span low high tests → Span low' high' tests
wider {low} {high} {low'} {high'} {tests} h k p =
    record { from = from_lower low' 18 low 18 tests h (omega arith) p.from; below = below_higher high high' tests k p.below; leads = p.leads }

module _ (s : Setup) (w : Walk) (start size : ℕ) (front : Front) where
  in_front : (P : List Test → Type 0) → P (18 at start when not (eqb front.count (size - 2)) ∷ opening_tests s start front)
      → P (18 at start when not (eqb front.count (size - 2)) ∷ later_tests w start front) → P (front_tests s w start size front)
  unfolding front_tests
  in_front P = either (λ (rest : List Test). P (18 at start when not (eqb front.count (size - 2)) ∷ rest)) (eqb w.set 0)

  front_from : From start 18 (front_tests s w start size front)
  unfolding opening_tests later_tests
  front_from = in_front (From start 18) (omega arith) (omega arith)

  front_span : Span start (start + 14) (front_tests s w start size front)
  unfolding opening_tests later_tests
  front_span =
      record {
        from = front_from;
        below = in_front (Below (start + 14)) (omega arith) (omega arith);
        leads = rising start (front_tests s w start size front) (in_front (Rising start) (omega arith) (omega arith));
      }

entry_span : (s : Setup) (flagged : Bool) (least offset : ℕ) (d : Defect) → Span offset (offset + 12) (entry_tests s flagged least offset d)
unfolding entry_tests
entry_span s flagged least offset d = record { from = omega arith; below = omega arith; leads = omega arith }

list_span : (s : Setup) (flagged : Bool) (least offset : ℕ) (defects : List Defect)
    → Span offset (offset + 12 * length defects) (list_tests s flagged least offset defects)
unfolding list_tests
list_span s flagged least offset [] = record { from = tt; below = tt; leads = tt }
list_span s flagged least offset (d ∷ defects) =
    let e : offset + 12 * suc (length defects) ≡ offset + 12 + 12 * length defects = omega arith in
    rw e (spans (omega arith) (omega arith) (entry_span s flagged least offset d) (list_span s flagged (behind least d) (offset + 12) defects))

over_span : (test : ℕ → Test) (start : ℕ) → ((i : ℕ) → ((test i).offset ≡ start + i) × (18 ≤ (test i).number))
    → (i count : ℕ) → Span (start + i) (start + (i + count)) (tests_over test i count)
unfolding tests_over
over_span test start place i zero = record { from = tt; below = tt; leads = tt }
over_span test start place i (suc count) =
    let e : i + suc count ≡ i + 1 + count = omega arith in
    let there = place i in
    let one : Span (start + i) (start + (i + 1)) (test i ∷ []) = record { from = omega arith; below = omega arith; leads = ((λ holds. tt), λ fails. tt) } in
    rw e (spans (omega arith) (omega arith) one (over_span test start place (i + 1) count))

crc_span : (start : ℕ) (field : List ℕ) → 2 ≤ length field → Span (start + (length field - 2)) (start + length field) (crc_tests start field)
crc_span start field h = record { from = omega arith; below = omega arith; leads = omega arith }

with_crc : (start : ℕ) (field : List ℕ) {high : ℕ} {tests : List Test} → Span start high tests → From start 18 (tests ++ crc_tests start field)
with_crc start field {high} {tests} p = each_append _ tests (crc_tests start field) p.from (omega arith)

module _ (s : Setup) (w : Walk) (least start : ℕ) (original field : List ℕ) where
  front : Span start (start + 14) (front_tests s w start (length field) (front_of field))
  front = front_span s w start (length field) (front_of field)

  entries : Span (start + 14) (start + 14 + 12 * length (defects_in field)) (list_tests s (is_flagged (front_of field).flags) least (start + 14) (defects_in field))
  entries = list_span s (is_flagged (front_of field).flags) least (start + 14) (defects_in field)

  padding : Span (start + 14 + 12 * length (defects_in field)) (start + max (14 + 12 * length (defects_in field)) (length field - 2)) (padding_tests start field (length (defects_in field)))
  padding = wider (omega arith) (omega arith) (over_span (zero_test start field) start (λ i. (refl, omega arith)) (14 + 12 * length (defects_in field)) _)

  low_octets : Span start (start + 3) (tests_over (same_test start field original) 0 3)
  low_octets = wider (omega arith) (omega arith) (over_span (same_test start field original) start (λ i. (refl, omega arith)) 0 3)

  number : Span (start + 3) (start + 4) (20 at start + 3 when not (eqb (get_or field 3 0) w.copy) ∷ [])
  number = record { from = omega arith; below = omega arith; leads = ((λ holds. tt), λ fails. tt) }

  high_octets : Span (start + 4) (start + max 4 (length field - 2)) (tests_over (same_test start field original) 4 (length field - 6))
  high_octets = wider (omega arith) (omega arith) (over_span (same_test start field original) start (λ i. (refl, omega arith)) 4 (length field - 6))

  -- all but the CRC, of copy 0 and of the others
  original_span : Span start (start + max (14 + 12 * length (defects_in field)) (length field - 2))
      (front_tests s w start (length field) (front_of field)
      ++ list_tests s (is_flagged (front_of field).flags) least (start + 14) (defects_in field)
      ++ padding_tests start field (length (defects_in field)))
  original_span = spans (omega arith) (omega arith) (spans (omega arith) (omega arith) front entries) padding

  copy_span : Span start (start + max 4 (length field - 2))
      (tests_over (same_test start field original) 0 3
      ++ 20 at start + 3 when not (eqb (get_or field 3 0) w.copy)
      ∷ tests_over (same_test start field original) 4 (length field - 6))
  copy_span = spans (omega arith) (omega arith) low_octets (spans (omega arith) (omega arith) number high_octets)

  pub field_from : From start 18 (field_tests s w least start original field)
  field_from = either (From start 18) (eqb w.copy 0) (with_crc start field original_span) (with_crc start field copy_span)

  pub field_span : 16 ≤ length field → Span start (start + length field) (field_tests s w least start original field)
  field_span long =
      let few = entries_few field 14 (slots (length field)) in
      let crc = crc_span start field (omega arith) in
      either (Span start (start + length field)) (eqb w.copy 0)
      (spans (omega arith) (omega arith) original_span (wider (omega arith) (omega arith) crc))
      (spans (omega arith) (omega arith) copy_span (wider (omega arith) (omega arith) crc))
