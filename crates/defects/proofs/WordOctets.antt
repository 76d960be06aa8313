-- Octets to words and back, two a word, the high one first: how many, the word at an index, and the octets again.
-- Assumes nothing.
use Prim.Native.Nat.{ℕ, zero, suc, ◌+◌, ◌*◌, ◌/◌, ◌%◌, ◌≤◌}
use mathlib.Core.Path.{◌≡◌, refl}
use mathlib.Core.List.{List, [], ◌∷◌}
use native.Mathlib.Nat.{zero-add}
use native.Mathlib.Omega.{arith}
use lib.ListN.{length, get_or}
use Rattle.laws.specs.Octets.{AllOctets}
use Rattle.defects.specs.Defect.{number_at}
use Rattle.defects.specs.Sectors.{word_octets, octet_words}

pub length_words : (octets : List ℕ) → length (octet_words octets) ≡ length octets / 2
length_words [] = refl
length_words (high ∷ []) = refl
length_words (high ∷ low ∷ octets) = omega (arith, length_words octets)

pub length_word_octets : (words : List ℕ) → length (word_octets words) ≡ 2 * length words
length_word_octets [] = refl
length_word_octets (word ∷ words) = omega (arith, length_word_octets words)

pub word_there : (octets : List ℕ) (i : ℕ) → 2 * i + 2 ≤ length octets → get_or (octet_words octets) i 0 ≡ number_at 2 (2 * i) octets
unfolding number_at
word_there [] i h = absurd (omega arith)
word_there (high ∷ []) i h = absurd (omega arith)
word_there (high ∷ low ∷ octets) zero h = rw zero-add
word_there (high ∷ low ∷ octets) (suc i) h = let e : 2 * suc i ≡ suc (suc (2 * i)) = omega arith in rw e (word_there octets i (omega arith))

pub octets_of_words : (octets : List ℕ) → length octets % 2 ≡ 0 → AllOctets octets → word_octets (octet_words octets) ≡ octets
octets_of_words [] even all = refl
octets_of_words (high ∷ []) even all = absurd (omega arith)
octets_of_words (high ∷ low ∷ octets) even all =
    let first : (high * 256 + low) / 256 ≡ high = omega (arith, all 1) in
    let second : (high * 256 + low) % 256 ≡ low = omega (arith, all 1) in
    rw (first, second, octets_of_words octets (omega arith) (λ i. all (suc (suc i))))
