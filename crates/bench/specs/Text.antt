-- Text as octets: a number in decimal, two hexadecimal digits, and a line of a word and a number.
use Rattle.std.specs.Prelude.{ℕ, zero, suc, ◌+◌, ◌-◌, ◌/◌, ◌%◌, List, [], ◌∷◌, ◌++◌, ltb}
use Rattle.laws.specs.Pick.{pick}

abbrev pub space : ℕ
space = 0x20

abbrev pub newline : ℕ
newline = 0x0A

-- A decimal digit, 0 to 9.
abbrev pub digit : ℕ → ℕ
digit n = 0x30 + n

-- A number in decimal: one digit below 10, else the digits of its tenth and then the remainder. `steps` bounds the digits before
-- the last; a number never has more of them than it is large.
unfoldable pub decimal_within : ℕ → ℕ → List ℕ
decimal_within zero n = digit n ∷ []
decimal_within (suc steps) n = pick (ltb n 10) (digit n ∷ []) (decimal_within steps (n / 10) ++ (digit (n % 10) ∷ []))

unfoldable pub decimal : ℕ → List ℕ
decimal n = decimal_within n n

-- A number and a space.
abbrev pub field : ℕ → List ℕ
field n = decimal n ++ (space ∷ [])

-- A line of a word and a number.
unfoldable pub numbered_line : List ℕ → ℕ → List ℕ
numbered_line word n = word ++ decimal n ++ (newline ∷ [])

-- A hexadecimal digit, 0 to 9 and A to F.
unfoldable pub hex_digit : ℕ → ℕ
hex_digit n = pick (ltb n 10) (digit n) (0x41 + (n - 10))

abbrev pub two_hex_digits : ℕ → List ℕ
two_hex_digits octet = hex_digit (octet / 16) ∷ hex_digit (octet % 16) ∷ []
