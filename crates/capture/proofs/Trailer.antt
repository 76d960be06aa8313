-- The trailer of a capture, taken apart and put together.
-- Assumes nothing.
use Prim.Native.Nat.{ℕ, ◌-◌, ◌^◌, ◌<◌, ◌≤◌}
use mathlib.Core.Path.{◌≡◌, refl, sym, ap₂, ◌∙◌}
use mathlib.Core.Bool.{true, false≢true}
use mathlib.Core.List.{List, [], ◌∷◌, ◌++◌}
use native.Mathlib.Omega.{arith}
use borrow.Author.Tests.{eqb-true}
use lib.Dec.{eqb}
use lib.ListN.{length, take, drop, length-append, length-drop, take-append-drop}
use lib.Seq.{length-take-le, drop_at}
use Rattle.laws.specs.Octets.{AllOctets}
use Rattle.laws.proofs.Octets.{number_of_octets, octets_of_number}
use Rattle.laws.specs.Lists.{same_list}
use Rattle.capture.specs.Capture.{mark, trailer_of, distance_of, has_mark}
use Rattle.capture.specs.Encoding.{trailer_for, capture_octets, capture_length}
use Rattle.laws.proofs.Tests.{and_l, and_r}
use Rattle.laws.proofs.Runs.{run_read}
use Rattle.laws.proofs.Octets.{octets_taken, octets_dropped}

same_octets : (xs ys : List ℕ) → same_list xs ys ≡ true → xs ≡ ys
same_octets [] [] e = refl
same_octets [] (y ∷ ys) e = absurd (false≢true e)
same_octets (x ∷ xs) [] e = absurd (false≢true e)
same_octets (x ∷ xs) (y ∷ ys) e =
    ap₂ ◌∷◌ (eqb-true x y (and_l (eqb x y) (same_list xs ys) e)) (same_octets xs ys (and_r (eqb x y) (same_list xs ys) e))

-- ---- taken apart

module _ (octets : List ℕ) (long : 8 ≤ length octets) (all : AllOctets octets) where
  length_trailer : length (trailer_of octets) ≡ 8
  length_trailer = simp length-drop (omega arith)

  all_trailer : AllOctets (trailer_of octets)
  all_trailer = octets_dropped (length octets - 8) octets all

  pub distance_held : distance_of octets < 256 ^ 4
  distance_held =
      rw (run_read (trailer_of octets) 0 4 (omega (arith, length_trailer)))
      (omega (arith, all_trailer 0, all_trailer 1, all_trailer 2, all_trailer 3))

  pub same_trailer : has_mark octets ≡ true → trailer_for (distance_of octets) ≡ trailer_of octets
  same_trailer marked =
      let trailer = trailer_of octets in
      let four = length-take-le 4 trailer (omega (arith, length_trailer)) in
      let distance = octets_of_number 4 (take 4 trailer) four (octets_taken 4 trailer all_trailer) in
      ap₂ ◌++◌ distance (sym (same_octets (drop 4 trailer) mark marked)) ∙ take-append-drop 4 trailer

-- ---- put together

module _ (notes records : List ℕ) where
  pub length_capture : length (capture_octets notes records) ≡ capture_length notes records
  length_capture = simp length-append

  pub trailer_of_capture : trailer_of (capture_octets notes records) ≡ trailer_for (length records)
  trailer_of_capture =
      let behind : length (notes ++ records) ≡ length (capture_octets notes records) - 8 = omega (arith, length-append notes records, length_capture) in
      drop_at (notes ++ records) (trailer_for (length records)) (length (capture_octets notes records) - 8) behind

  pub distance_of_capture : length records < 256 ^ 4 → distance_of (capture_octets notes records) ≡ length records
  distance_of_capture h = rw trailer_of_capture (number_of_octets 4 (length records) h)

  pub capture_has_mark : has_mark (capture_octets notes records) ≡ true
  capture_has_mark = rw trailer_of_capture
