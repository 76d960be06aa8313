-- A data field that is there, whole: so are those before it, and it has the size of one; offsets within the last cylinder are small.
-- Assumes nothing.
use Prim.Native.Nat.{ℕ, ◌+◌, ◌-◌, ◌*◌, ◌^◌, ◌<◌, ◌≤◌}
use mathlib.Core.Path.{◌≡◌, sym, ap, ◌∙◌}
use mathlib.Core.Bool.{true}
use mathlib.Core.List.{List}
use native.Mathlib.Nat.{mul-le-mul, mul-le-mul_right}
use native.Mathlib.Omega.{arith}
use lib.ListN.{length, take, drop}
use Rattle.parts.specs.Setup.{within_limits}
use Rattle.parts.specs.declared.setup.Setup.{Setup}
use Rattle.parts.proofs.Bounds.{limits}
use Rattle.defects.specs.Place.{field_octets, data_fields}
use Rattle.defects.specs.Walk.{field_at}
use Rattle.defects.specs.Source.{string_in, Loadable}
use Rattle.defects.specs.Steps.{Judgeable}
use Rattle.defects.specs.declared.source.Source.{Source}
use Rattle.defects.specs.declared.walk.Walk.{Walk}
use Rattle.defects.proofs.Fields.{some_field, few_fields, field_length}

-- an offset up to the end of the last cylinder
pub start_few : (s : Setup) (k : ℕ) → within_limits s ≡ true → k ≤ data_fields s → k * field_octets s ≤ 2 ^ 24
start_few s k small h =
    let few = limits s small in
    mul-le-mul {n₁ = k} {n₂ = 8192} {m₂ = 2048} (omega (arith, few_fields s few)) (omega arith)

pub loadable_before : {s : Setup} {source : Source} {k : ℕ} (j : ℕ) → Loadable s source k → j ≤ k → Loadable s source j
loadable_before {s} {k = k} j l h =
    let low : j * field_octets s ≤ k * field_octets s = mul-le-mul_right (field_octets s) h in
    record { readable = l.readable; inside = omega (arith, l.inside); whole = omega (arith, l.whole) }

pub length_loaded : {s : Setup} {source : Source} {k : ℕ} → Loadable s source k → length (field_at s (string_in s source) k) ≡ field_octets s
length_loaded {s} {source} {k} l = field_length s (string_in s source) k l.whole

-- a window of a string
pub window : (s : Setup) (octets : List ℕ) (k each : ℕ) → each ≡ field_octets s → take (k * each + each - k * each) (drop (k * each) octets) ≡ field_at s octets k
unfolding field_at
window s octets k each e = let count : k * each + each - k * each ≡ each = omega arith in rw (count, e)

pub judgeable : {s : Setup} {source : Source} {k : ℕ} (w : Walk) (start : ℕ) (original field : List ℕ)
    → Loadable s source k → w.set < 2 ^ 32 → w.original ≤ k → start ≡ k * field_octets s
    → original ≡ field_at s (string_in s source) w.original → field ≡ field_at s (string_in s source) k
    → Judgeable s w start original field
judgeable {s} {k = k} w start original field l few before e p q =
    let small = limits s l.readable.limits in
    let some = some_field s k l.inside in
    let size = ap length q ∙ length_loaded l in
    let size' = ap length p ∙ length_loaded (loadable_before w.original l before) in
    record {
      sized = record { limits = l.readable.limits; least = omega arith; most = omega arith; within = omega (arith, start_few s k l.readable.limits (omega (arith, l.inside))) };
      alike = size' ∙ sym size;
      few = few;
    }
