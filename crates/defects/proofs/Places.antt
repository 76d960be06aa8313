-- `specs/Places` proved: a data field's number is its track and its sector, counted from the last track down.
-- Assumes nothing.
use Prim.Native.Nat.{ℕ, ◌+◌, ◌-◌, ◌*◌, ◌/◌, ◌%◌, ◌<◌}
use mathlib.Core.Path.{◌≡◌, refl, ap, ◌∙◌}
use mathlib.Core.Bool.{Bool, true, false}
use native.Mathlib.Nat.{div-add-mod', mul-add-div_right, mul-add-mod_self_right, div-eq_of_lt, mod-eq_of_lt, zero-div, zero-mod}
use native.Mathlib.Omega.{arith}
use borrow.Author.Tests.{lt-ltb, ltb-true, ltb-false}
use lib.Dec.{ltb}
use Rattle.parts.specs.Setup.{is_place}
use Rattle.parts.specs.declared.setup.Setup.{Setup}
use Rattle.parts.specs.declared.setup.Place.{Place}
use Rattle.defects.specs.Place.{place_of}
use Rattle.defects.specs.Places.{Follows, next_sector, next_track, Places}
use Rattle.defects.proofs.Fields.{Field, field}

place_inside : (s : Setup) (k : ℕ) → Field s k → is_place s (place_of s k) ≡ true
unfolding is_place place_of
place_inside s k f =
    rw (
      lt-ltb (s.cylinders - 1) s.cylinders (omega arith),
      lt-ltb (s.heads - 1 - k / s.sectors) s.heads (omega arith),
      lt-ltb (k % s.sectors) s.sectors (omega arith),
    )

same_field : (s : Setup) (j k : ℕ) → Field s j → Field s k → place_of s j ≡ place_of s k → j ≡ k
unfolding place_of
same_field s j k f g e =
    let track : j / s.sectors ≡ k / s.sectors = omega (arith, ap (λ (p : Place). p.head) e) in
    let sector : j % s.sectors ≡ k % s.sectors = ap (λ (p : Place). p.sector) e in
    cc (div-add-mod' j s.sectors, div-add-mod' k s.sectors)

-- a number's quotient and remainder, from what they make
parted : (m n q r : ℕ) → m ≡ q * n + r → r < n → (m / n ≡ q) × (m % n ≡ r)
parted m n q r e h =
    rw e
    (mul-add-div_right (omega arith) q r ∙ omega (arith, div-eq_of_lt h), mul-add-mod_self_right q n r ∙ mod-eq_of_lt h)

following_field : (s : Setup) (k : ℕ) → Field s k → Field s (k + 1) → Follows s (place_of s k) (place_of s (k + 1))
unfolding place_of
following_field s k f g = by_test (ltb (k % s.sectors + 1) s.sectors) refl
  where
    by_test : (test : Bool) → ltb (k % s.sectors + 1) s.sectors ≡ test → Follows s (place_of s k) (place_of s (k + 1))
    by_test true e =
        let (track, sector) = parted (k + 1) s.sectors (k / s.sectors) (k % s.sectors + 1) (omega (arith, div-add-mod' k s.sectors)) (ltb-true _ _ e) in
        next_sector (rw track) sector
    by_test false e =
        let last : k % s.sectors + 1 ≡ s.sectors = omega (arith, ltb-false) in
        let (track, sector) = parted (k + 1) s.sectors (k / s.sectors + 1) 0 (omega (arith, div-add-mod' k s.sectors)) (omega arith) in
        next_track last sector (omega arith)

starts_at : (s : Setup) → ((place_of s 0).head ≡ s.heads - 1) × ((place_of s 0).sector ≡ 0)
unfolding place_of
starts_at s = (omega (arith, zero-div s.sectors), zero-mod s.sectors)

pub places : Places
unfolding place_of
places =
    record {
      inside = λ s k w h. place_inside s k (field s k w h);
      last_cylinder_lem = λ s k w h. refl;
      distinct = λ s j k w h i e. same_field s j k (field s j w h) (field s k w i) e;
      starts = λ s w h. starts_at s;
      in_order = λ s k w h. following_field s k (field s k w (omega arith)) (field s (k + 1) w h);
    }
