-- A number as a program is told it: one to ten decimal digits that fit 32 bits, and nothing else.
use Rattle.std.specs.Prelude.{ℕ, ◌+◌, ◌-◌, ◌*◌, Bool, ◌&&◌, List, [], ◌∷◌, Option, Some, None, leb, length}
use Rattle.laws.specs.Pick.{pick}

-- `0` to `9`, in ASCII.
abbrev pub is_digit : ℕ → Bool
is_digit octet = leb 48 octet && leb octet 57

-- The number that digits spell behind those read already, if 32 bits hold it.
abbrev pub decimal_after : ℕ → List ℕ → Option ℕ
decimal_after before [] = pick (leb before 4294967295) (Some before) None
decimal_after before (octet ∷ octets) = pick (is_digit octet) (decimal_after (before * 10 + (octet - 48)) octets) None

-- The promise of `number_of`: one to ten octets, zeros in front counted too.
unfoldable pub number_in : List ℕ → Option ℕ
number_in octets = pick (leb 1 (length octets) && leb (length octets) 10) (decimal_after 0 octets) None
