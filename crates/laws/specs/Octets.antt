-- Octets: their bits, and numbers of several octets, high first.
use Rattle.std.specs.Prelude.{ℕ, zero, suc, ◌+◌, ◌*◌, ◌/◌, ◌%◌, ◌^◌, ◌<◌, Bool, List, [], ◌∷◌, ◌++◌, eqb, get_or}

-- Bit k of a number, counted from 0, is set.
abbrev pub bit : ℕ → ℕ → Bool
bit k n = eqb (n / 2 ^ k % 2) 1

-- The number that octets stand for, high first, behind what was read already.
abbrev pub number_after : ℕ → List ℕ → ℕ
number_after before [] = before
number_after before (octet ∷ octets) = number_after (before * 256 + octet) octets

abbrev pub number_of : List ℕ → ℕ
number_of octets = number_after 0 octets

-- The low `count` octets of a number, high first.
abbrev pub octets_of : ℕ → ℕ → List ℕ
octets_of zero n = []
octets_of (suc count) n = octets_of count (n / 256) ++ (n % 256 ∷ [])

-- Each element of the list is an octet.
abbrev pub AllOctets : List ℕ → Type 0
AllOctets list = (i : ℕ) → get_or list i 0 < 256
