-- What a capture that is not refused has: a trailer, its mark, whole records within it.
-- Assumes nothing.
use Prim.Native.Nat.{ℕ, ◌-◌, ◌/◌, ◌%◌, ◌≤◌}
use mathlib.Core.Path.{◌≡◌, refl, ap}
use mathlib.Core.Bool.{true, false, not}
use mathlib.Core.List.{List, []}
use native.Mathlib.Omega.{arith}
use borrow.Author.Tests.{ltb-false, eqb-true, not-false}
use lib.Dec.{eqb, ltb}
use lib.ListN.{length, take, drop}
use Rattle.capture.specs.Capture.{has_mark, distance_of, first_record, capture_rows, capture_refusal, capture_in, notes_of, records_of, DecodedCapture}
use Rattle.capture.specs.declared.capture.Capture.{Capture}
use Rattle.std.specs.Prelude.{Ok, Err}
use Rattle.refusals.specs.declared.refusal.Refusal.{Refusal}
use Rattle.refusals.proofs.OnPaper.{value_given, refusal_given, left_as_it_was}
use Rattle.laws.proofs.Tests.{or_l, or_r}
use Rattle.laws.proofs.Rows.{all_passed}

pub record Whole (octets : List ℕ) (first count : ℕ) : Type 0 where
  pub unrefused : capture_refusal octets ≡ 0
  pub long : 8 ≤ length octets
  pub marked : has_mark octets ≡ true
  pub even : distance_of octets % 8 ≡ 0
  pub within : distance_of octets ≤ length octets - 8
  pub starts : first ≡ first_record octets
  pub counts : count ≡ distance_of octets / 8

pub whole : {octets : List ℕ} {found : Capture} → DecodedCapture octets (Ok found) → Whole octets found.first found.count
whole {octets} {found} d =
    let (unrefused, same) = value_given (capture_rows octets) d.answer in
    let (long, (marked, (distance, end))) = all_passed (capture_rows octets) refl unrefused in
    let even : not (eqb (distance_of octets % 8) 0) ≡ false = search or_l in
    let within : ltb (length octets - 8) (distance_of octets) ≡ false = search or_r in
    record {
      unrefused = unrefused;
      long = ltb-false _ _ long;
      marked = not-false _ marked;
      even = eqb-true _ _ (not-false _ even);
      within = ltb-false _ _ within;
      starts = ap (λ (c : Capture). c.first) same;
      counts = ap (λ (c : Capture). c.count) same;
    }

-- ---- the parts

pub whole_parts : {octets : List ℕ} {first count : ℕ} → Whole octets first count
    → (notes_of octets ≡ take first octets) × (records_of octets ≡ take (length octets - 8 - first) (drop first octets))
unfolding notes_of records_of
whole_parts {octets} {first} w =
    let behind : distance_of octets ≡ length octets - 8 - first = omega (arith, w.within, w.starts) in
    (rw (w.unrefused, ← w.starts), rw (w.unrefused, ← w.starts, behind))

pub no_parts : {octets : List ℕ} {refusal : Refusal} → DecodedCapture octets (Err refusal) → (notes_of octets ≡ []) × (records_of octets ≡ [])
unfolding notes_of records_of
no_parts {octets} {refusal} d =
    let refused = refusal_given (capture_rows octets) refusal (capture_in octets) d.answer in
    (left_as_it_was refusal _ refused, left_as_it_was refusal _ refused)
