-- Where the walk over a map's data fields stands: at the outset, within a set, or behind one whose copy 0 it remembers. Of every string.
-- Assumes nothing.
use Prim.Native.Nat.{ℕ, zero, suc, ◌+◌, ◌<◌, ◌≤◌}
use mathlib.Core.Path.{◌≡◌, refl, ap}
use mathlib.Core.Bool.{Bool, true, false}
use mathlib.Core.List.{List}
use native.Mathlib.Omega.{arith}
use lib.Dec.{eqb}
use Rattle.laws.specs.Pick.{pick}
use Rattle.parts.specs.declared.setup.Setup.{Setup}
use Rattle.defects.specs.Field.{front_of, is_last}
use Rattle.defects.specs.Walk.{outset, after_original, after_copy, field_at, walk_at, is_original}
use Rattle.defects.specs.declared.walk.Walk.{Walk}
use Rattle.defects.proofs.WalkSteps.{next_step}

-- what the walk remembers is what copy 0 of the set tells
pub record Remembered (s : Setup) (octets : List ℕ) (k : ℕ) (w : Walk) : Type 0 where
  pub earlier : w.original < k
  pub begins : is_original (walk_at s octets w.original) (field_at s octets w.original) ≡ true
  pub sets : w.sets ≡ (front_of (field_at s octets w.original)).sets
  pub cylinder : w.cylinder ≡ (front_of (field_at s octets w.original)).cylinder
  pub head : w.head ≡ (front_of (field_at s octets w.original)).head
  pub last : w.last ≡ is_last (front_of (field_at s octets w.original)).flags

pub data Standing (s : Setup) (octets : List ℕ) (k : ℕ) (w : Walk) : Type 0 where
  at_outset : w ≡ outset → Standing s octets k w
  in_set : 1 ≤ w.copy → w.copy ≤ 2 → w.set ≡ (walk_at s octets w.original).set → Remembered s octets k w → Standing s octets k w
  behind_set : w.copy ≡ 0 → w.set ≡ suc (walk_at s octets w.original).set → Remembered s octets k w → Standing s octets k w

module _ (s : Setup) (octets : List ℕ) where
  still_remembered : (k : ℕ) (w : Walk) → Remembered s octets k w → Remembered s octets (suc k) w
  still_remembered k w r =
      record { earlier = omega (arith, r.earlier); begins = r.begins; sets = r.sets; cylinder = r.cylinder; head = r.head; last = r.last }

  still_standing : (k : ℕ) (w : Walk) → Standing s octets k w → Standing s octets (suc k) w
  still_standing k w (at_outset e) = at_outset e
  still_standing k w (in_set low high same r) = in_set low high same (still_remembered k w r)
  still_standing k w (behind_set none next r) = behind_set none next (still_remembered k w r)

  behind_original : (k : ℕ) → is_original (walk_at s octets k) (field_at s octets k) ≡ true
      → Standing s octets (suc k) (after_original (walk_at s octets k) k (front_of (field_at s octets k)))
  behind_original k begins =
      in_set (omega arith) (omega arith) refl (record { earlier = omega arith; begins = begins; sets = refl; cylinder = refl; head = refl; last = refl })

  -- another set and copy are no part of it
  kept : {k set copy : ℕ} {w : Walk} → Remembered s octets k w
      → Remembered s octets k (record { set = set; copy = copy; original = w.original; sets = w.sets; cylinder = w.cylinder; head = w.head; last = w.last })
  kept r = record { earlier = r.earlier; begins = r.begins; sets = r.sets; cylinder = r.cylinder; head = r.head; last = r.last }

  behind_copy : (k : ℕ) (w : Walk) → (w.copy ≡ 0 → ⊥) → Standing s octets k w → Standing s octets (suc k) (after_copy w)
  unfolding pick
  behind_copy k w other (at_outset e) = absurd (other (ap (λ (w : Walk). w.copy) e))
  behind_copy k w other (behind_set none next r) = absurd (other none)
  behind_copy k w other (in_set low high same r) = by_third (eqb w.copy 2)
    where
      still : Remembered s octets (suc k) w
      still = still_remembered k w r

      by_third : (third : Bool)
          → Standing s octets (suc k)
          (record { set = pick third (w.set + 1) w.set; copy = pick third 0 2; original = w.original; sets = w.sets; cylinder = w.cylinder; head = w.head; last = w.last })
      by_third true = behind_set refl (omega (arith, same)) (kept still)
      by_third false = in_set (omega arith) (omega arith) same (kept still)

  pub standing : (k : ℕ) → Standing s octets k (walk_at s octets k)
  unfolding walk_at
  standing zero = at_outset refl
  standing (suc k) =
      let before = still_standing k (walk_at s octets k) (standing k) in
      next_step (Standing s octets (suc k)) s octets k (λ ended. before) (λ going ignored. before) (behind_original k)
      (λ going heard other. behind_copy k (walk_at s octets k) other (standing k))
