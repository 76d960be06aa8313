-- Data fields of a map in their places, one more at a time: in the octets of the map, and in the sector words.
-- Assumes nothing.
use Prim.Native.Nat.{ℕ, zero, suc, ◌+◌, ◌*◌, ◌≤◌}
use mathlib.Core.Path.{◌≡◌, refl, sym, ap, ◌∙◌}
use mathlib.Core.List.{List}
use native.Mathlib.Nat.{zero-add, add-zero}
use native.Mathlib.Omega.{arith}
use lib.ListN.{length, take, drop}
use lib.Seq.{length-take-le, take-add}
use Rattle.laws.proofs.Windows.{written_next}
use Rattle.laws.specs.Lists.{written_over, written_at}
use Rattle.parts.specs.declared.setup.Setup.{Setup}
use Rattle.defects.specs.Place.{field_octets}
use Rattle.defects.specs.Sectors.{octet_words, field_start, stored_fields}
use Rattle.defects.specs.Walk.{field_at}
use Rattle.defects.specs.EncodeSteps.{octet_start, put_fields}

-- one more behind so many
pub put_next : {A : Type 0} (start : Setup → ℕ → ℕ) (units : List ℕ → List A) (s : Setup) (map : List ℕ) (out : List A) (k count : ℕ)
    → put_fields start units s map out k (suc count) ≡ written_at (put_fields start units s map out k count) (start s (k + count)) (units (field_at s map (k + count)))
unfolding put_fields
put_next start units s map out k zero = rw add-zero
put_next start units s map out k (suc count) =
    let there : k + suc count ≡ suc k + count = omega arith in
    rw there (put_next start units s map (written_at out (start s k) (units (field_at s map k))) (suc k) count)

-- so many behind others
pub put_more : {A : Type 0} (start : Setup → ℕ → ℕ) (units : List ℕ → List A) (s : Setup) (map : List ℕ) (out : List A) (k m n : ℕ) {there : ℕ} → there ≡ k + m
    → put_fields start units s map (put_fields start units s map out k m) there n ≡ put_fields start units s map out k (m + n)
unfolding put_fields
put_more start units s map out k zero n e = rw (e, add-zero, zero-add)
put_more start units s map out k (suc m) n e =
    let all : suc m + n ≡ suc (m + n) = omega arith in
    rw all (put_more start units s map (written_at out (start s k) (units (field_at s map k))) (suc k) m n (e ∙ omega arith))

-- in the octets of a map they are its front
pub octets_put : (s : Setup) (map out : List ℕ) (count : ℕ) → count * field_octets s ≤ length map
    → put_fields octet_start (λ octets. octets) s map out 0 count ≡ written_over out (take (count * field_octets s) map)
unfolding put_fields field_at
octets_put s map out zero h = let none : 0 * field_octets s ≡ 0 = omega arith in rw none
octets_put s map out (suc count) h =
    let size = field_octets s in
    let front = take (count * size) map in
    let whole : suc count * size ≡ count * size + size = omega arith in
    let here : count * size ≡ length front = sym (length-take-le (count * size) map (omega arith)) in
    put_next octet_start (λ octets. octets) s map out 0 count
    ∙ rw (zero-add, octets_put s map out count (omega arith), whole, take-add (count * size) size map)
    (ap (λ (at : ℕ). written_at (written_over out front) at (take size (drop (count * size) map))) here ∙ written_next out front (take size (drop (count * size) map)))

-- in the sector words they are stored
pub words_put : (s : Setup) (map out : List ℕ) (k count : ℕ) → put_fields field_start octet_words s map out k count ≡ stored_fields s map out k count
unfolding put_fields stored_fields
words_put s map out k zero = refl
words_put s map out k (suc count) = words_put s map (written_at out (field_start s k) (octet_words (field_at s map k))) (suc k) count
