-- A data field loaded word by word: what stands in front is what was to be loaded so far.
-- Assumes nothing.
use Prim.Native.Nat.{ℕ, suc, ◌+◌, ◌*◌, ◌/◌, ◌%◌, ◌<◌}
use mathlib.Core.Path.{◌≡◌, refl, ap}
use mathlib.Core.List.{List, [], ◌∷◌, ◌++◌, append_assoc}
use native.Mathlib.Numerals.{add-one}
use native.Mathlib.Omega.{arith}
use lib.ListN.{length, get_or, take, drop, set, length-set, length-drop}
use lib.Seq.{take-suc, take-suc-set, get_or-drop}
use Rattle.defects.specs.Sectors.{word_octets}

-- one more of a run
taken_next : (list : List ℕ) (start i : ℕ) → start + i < length list → take (i + 1) (drop start list) ≡ take i (drop start list) ++ (get_or list (start + i) 0 ∷ [])
taken_next list start i h =
    let inside : i < length (drop start list) = simp length-drop (omega arith) in
    rw (add-one i, take-suc (drop start list) i 0 inside, get_or-drop start list i 0)

word_octets_append : (words : List ℕ) (word : ℕ) → word_octets (words ++ (word ∷ [])) ≡ word_octets words ++ (word / 256 ∷ word % 256 ∷ [])
word_octets_append [] word = refl
word_octets_append (x ∷ words) word = ap (λ (rest : List ℕ). x / 256 ∷ x % 256 ∷ rest) (word_octets_append words word)

pub word_loaded : (field words : List ℕ) (start i : ℕ) → 2 * i + 1 < length field → start + i < length words
    → take (2 * i) field ≡ word_octets (take i (drop start words))
    → let word = get_or words (start + i) 0 in
    take (2 * (i + 1)) (set (set field (2 * i) (word / 256)) (2 * i + 1) (word % 256)) ≡ word_octets (take (i + 1) (drop start words))
word_loaded field words start i h inside e =
    let word = get_or words (start + i) 0 in
    let first = set field (2 * i) (word / 256) in
    let two : 2 * (i + 1) ≡ suc (2 * i + 1) = omega arith in
    let low = take-suc-set first (2 * i + 1) (word % 256) (simp length-set h) in
    let high = take-suc-set field (2 * i) (word / 256) (omega arith) in
    rw (two, low, add-one (2 * i), high, e, taken_next words start i inside, word_octets_append (take i (drop start words)) word)
    (append_assoc (word_octets (take i (drop start words))) (word / 256 ∷ []) (word % 256 ∷ []))
