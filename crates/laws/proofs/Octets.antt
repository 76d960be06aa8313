-- Octets to a number and back, high first, at every width; the number that octets stand for fits as many.
-- Assumes nothing.
use Prim.Native.Nat.{ℕ, zero, suc, ◌+◌, ◌*◌, ◌/◌, ◌%◌, ◌^◌, ◌<◌}
use mathlib.Core.Path.{◌≡◌, refl, sym, ap, ◌∙◌}
use mathlib.Core.List.{List, [], ◌∷◌, ◌++◌}
use native.Mathlib.Nat.{add-zero, zero-add, pow-suc, div-lt_iff_lt-mul}
use native.Mathlib.Omega.{arith}
use lib.ListN.{length, get_or, take, drop, length-append}
use lib.Seq.{take-suc, take_all, get_or-drop, length-take-le}
use Rattle.laws.specs.Octets.{number_after, number_of, octets_of, AllOctets}

-- one octet more, at the low end
number_snoc : (before : ℕ) (octets : List ℕ) (low : ℕ) → number_after before (octets ++ (low ∷ [])) ≡ number_after before octets * 256 + low
number_snoc before [] low = refl
number_snoc before (x ∷ octets) low = number_snoc (before * 256 + x) octets low

pub length_octets : (count n : ℕ) → length (octets_of count n) ≡ count
length_octets zero n = refl
length_octets (suc count) n =
    let e = length_octets count (n / 256) in
    let l = length-append (octets_of count (n / 256)) (n % 256 ∷ []) in
    omega arith

-- decoding what was encoded
pub number_of_octets : (count n : ℕ) → n < 256 ^ count → number_of (octets_of count n) ≡ n
number_of_octets zero n h = omega arith
number_of_octets (suc count) n h =
    let h' : n / 256 < 256 ^ count = (div-lt_iff_lt-mul {k = 256} (omega arith)).1 (rw pow-suc at h) in
    let e = number_of_octets count (n / 256) h' in
    let s = number_snoc 0 (octets_of count (n / 256)) (n % 256) in
    omega arith

pub octets_taken : (n : ℕ) (octets : List ℕ) → AllOctets octets → AllOctets (take n octets)
octets_taken zero octets h i = omega arith
octets_taken (suc n) [] h i = omega arith
octets_taken (suc n) (x ∷ octets) h zero = h 0
octets_taken (suc n) (x ∷ octets) h (suc i) = octets_taken n octets (λ j. h (suc j)) i

-- encoding what was decoded
pub octets_of_number : (count : ℕ) (octets : List ℕ) → length octets ≡ count → AllOctets octets → octets_of count (number_of octets) ≡ octets
octets_of_number zero [] e h = refl
octets_of_number zero (x ∷ octets) e h = absurd (omega arith)
octets_of_number (suc count) octets e h =
    let front = take count octets in
    let low = get_or octets count 0 in
    let split : octets ≡ front ++ (low ∷ []) = sym (take_all (suc count) octets (omega arith)) ∙ take-suc octets count 0 (omega arith) in
    let n : number_of octets ≡ number_of front * 256 + low = ap number_of split ∙ number_snoc 0 front low in
    let high : number_of octets / 256 ≡ number_of front = omega (arith, h count) in
    let last : number_of octets % 256 ≡ low = omega (arith, h count) in
    let ih = octets_of_number count front (length-take-le count octets (omega arith)) (octets_taken count octets h) in
    rw (high, last, ih) (sym split)

pub octets_dropped : (n : ℕ) (octets : List ℕ) → AllOctets octets → AllOctets (drop n octets)
octets_dropped n octets h i = rw (get_or-drop n octets i 0) (h (n + i))

-- the number fits
number_after_fits : (before width : ℕ) (octets : List ℕ) → before < 256 ^ width → AllOctets octets → number_after before octets < 256 ^ (width + length octets)
number_after_fits before width [] h all = rw add-zero h
number_after_fits before width (x ∷ octets) h all =
    let e : width + suc (length octets) ≡ suc width + length octets = omega arith in
    rw e (number_after_fits (before * 256 + x) (suc width) octets (rw pow-suc (omega (arith, all 0))) (λ i. all (suc i)))

pub number_fits : (octets : List ℕ) → AllOctets octets → number_of octets < 256 ^ length octets
number_fits octets all = rw zero-add at (number_after_fits 0 0 octets (omega arith) all)
