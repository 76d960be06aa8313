-- The entries of a data field, listed one after another: what is left to list makes the whole list.
-- Assumes nothing.
use Prim.Native.Nat.{ℕ, ◌+◌, ◌-◌, ◌*◌, ◌<◌, ◌≤◌}
use mathlib.Core.Path.{◌≡◌, refl, sym, ap, ◌∙◌}
use mathlib.Core.Bool.{false}
use mathlib.Core.List.{List, []}
use native.Mathlib.Nat.{add-zero}
use native.Mathlib.Omega.{arith}
use lib.ListN.{length}
use Rattle.laws.proofs.Windows.{length_written, written_none, written_on}
use Rattle.laws.specs.Lists.{written_at}
use Rattle.defects.specs.Defect.{defect_at, defect_octets, list_octets, is_blank}
use Rattle.defects.specs.Field.{slots, defects_from, defects_in}
use Rattle.defects.proofs.DefectOctets.{length_defect_octets}
use Rattle.defects.proofs.EntriesLeft.{one_left}

-- i entries are listed
pub record Listing (field : List ℕ) (count : ℕ) (defects₀ : List ℕ) (defects : List ℕ) (i : ℕ) : Type 0 where
  pub kept : length defects ≡ length defects₀
  pub many : length (defects_in field) ≡ i + length (defects_from field (14 + 12 * i) (slots (length field) - i))
  pub left : written_at defects₀ (12 * count) (list_octets (defects_in field))
      ≡ written_at defects (12 * (count + i)) (list_octets (defects_from field (14 + 12 * i) (slots (length field) - i)))

module _ (field : List ℕ) (count : ℕ) (defects₀ : List ℕ) where
  pub listing_start : Listing field count defects₀ defects₀ 0
  listing_start =
      let none : slots (length field) - 0 ≡ slots (length field) = omega arith in
      let here : 12 * (count + 0) ≡ 12 * count = omega arith in
      record { kept = refl; many = rw none (omega arith); left = rw (none, here) }

  -- nothing is left
  pub listing_none : (defects : List ℕ) (i : ℕ) → Listing field count defects₀ defects i → defects_from field (14 + 12 * i) (slots (length field) - i) ≡ []
      → (count + i ≡ count + length (defects_in field)) × (defects ≡ written_at defects₀ (12 * count) (list_octets (defects_in field)))
  listing_none defects i l e =
      (ap (λ (n : ℕ). count + n) (sym (l.many ∙ rw (e, add-zero))), sym (l.left ∙ rw e (written_none defects (12 * (count + i)))))

  -- one more
  pub listing_next : (defects : List ℕ) (i : ℕ) → Listing field count defects₀ defects i → i < slots (length field)
      → is_blank (defect_at (14 + 12 * i) field) ≡ false → 12 * (count + length (defects_in field)) ≤ length defects₀
      → Listing field count defects₀ (written_at defects (12 * (count + i)) (defect_octets (defect_at (14 + 12 * i) field))) (i + 1)
  listing_next defects i l h b room =
      let d = defect_at (14 + 12 * i) field in
      let one = one_left field i (14 + 12 * i) h b in
      let twelve = length_defect_octets d in
      let ahead : 14 + 12 * i + 12 ≡ 14 + 12 * (i + 1) = omega arith in
      let on : 12 * (count + i) + length (defect_octets d) ≡ 12 * (count + (i + 1)) = omega arith in
      let many : length (defects_in field) ≡ i + 1 + length (defects_from field (14 + 12 * (i + 1)) (slots (length field) - (i + 1))) = l.many ∙ rw (one, ahead) (omega arith) in
      let fits : 12 * (count + i) + length (defect_octets d) ≤ length defects = omega (arith, l.kept) in
      record {
        kept = length_written defects (12 * (count + i)) (defect_octets d) fits ∙ l.kept;
        many = many;
        left = l.left ∙ rw (one, ahead) (written_on defects (12 * (count + i)) (defect_octets d) _ fits ∙ rw on);
      }
