-- Commands and responses (M-100): the codes of 004 section 10.1, the words of each, and the functions of code 01.
use Rattle.std.specs.Prelude.{ℕ, ◌/◌, ◌%◌, ◌≡◌, Bool, true, not, ◌&&◌, List, [], ◌∷◌, ◌++◌, eqb}
use Rattle.laws.specs.Pick.{pick}
use Rattle.laws.specs.Lists.{one_of}
use Rattle.parts.specs.declared.control.Control.{Control}
use Rattle.parts.specs.declared.control.Control.TheVariants.{Command, Response, Unsupported, Invalid}
use Rattle.parts.specs.declared.command.Function.{Function}
use Rattle.parts.specs.declared.command.Function.TheVariants.{PriorityReserve, Reserve, Release, NoOperation, Recalibrate, ActsOnMore, NotListed}

-- The codes that act on holds, position, target or status, by 004's names.
abbrev pub load_drive_function : ℕ
load_drive_function = 0x01

abbrev pub load_cylinder_address : ℕ
load_cylinder_address = 0x04

abbrev pub load_head_address : ℕ
load_head_address = 0x05

abbrev pub load_target_sector_address : ℕ
load_target_sector_address = 0x06

abbrev pub load_position : ℕ
load_position = 0x07

abbrev pub read_status : ℕ
read_status = 0x44

abbrev pub read_current_sector_address : ℕ
read_current_sector_address = 0x46

abbrev pub read_current_position : ℕ
read_current_position = 0x47

-- "Add the command and response codes of source document 004 section 10.1": words from the host, words to the host.
abbrev pub commands : List ℕ
commands = load_drive_function ∷ load_cylinder_address ∷ load_head_address ∷ load_target_sector_address ∷ load_position ∷ []

abbrev pub responses : List ℕ
responses = read_status ∷ read_current_sector_address ∷ read_current_position ∷ []

-- "one that acts on more than holds, position, target or status gets 8 and bit 5"
abbrev pub codes_acting_on_more : List ℕ
codes_acting_on_more = 0x02 ∷ 0x03 ∷ 0x41 ∷ 0x42 ∷ 0x43 ∷ 0x45 ∷ 0x48 ∷ []

-- "Bit 7 of octet 2 no longer covers these codes": it covers all others below 80.
unfoldable pub code_of : ℕ → Control
code_of c =
    pick (one_of commands c) Command
    (pick (one_of responses c) Response
    (pick (one_of codes_acting_on_more c) Unsupported Invalid))

-- "with their parameter lengths": 004 gives them in octets, 2, 4, 2, 2 and 8 sent, 8, 2 and 10 taken. "All information is transferred in the double octet
-- (16-bit) mode."
unfoldable pub parameter_words : ℕ → ℕ
parameter_words c =
    pick (eqb c load_drive_function) 1
    (pick (eqb c load_cylinder_address) 2
    (pick (eqb c load_head_address) 1
    (pick (eqb c load_target_sector_address) 1
    (pick (eqb c load_position) 4
    (pick (eqb c read_status) 4
    (pick (eqb c read_current_sector_address) 1
    (pick (eqb c read_current_position) 5 0)))))))

-- ---- the functions of code 01

-- 004's function codes that act on more: the ports' switches, the notice of a format, attention, the motor, diagnostics, sector marks, ECC, head offset,
-- strobe.
abbrev pub functions_acting_on_more : List ℕ
functions_acting_on_more =
    0x10 ∷ 0x11 ∷ 0x12 ∷ 0x16
    ∷ 0x18 ∷ 0x19 ∷ 0x1A ∷ 0x1B ∷ 0x1C ∷ 0x1D ∷ 0x1E ∷ 0x1F
    ∷ 0x22 ∷ 0x23 ∷ 0x29 ∷ 0x2B ∷ 0x2C ∷ 0x2D
    ∷ 0x41 ∷ 0x42 ∷ 0x43 ∷ 0x44 ∷ 0x45 ∷ 0x46 ∷ 0x47 ∷ 0x48 ∷ 0x49 ∷ 0x4A ∷ 0x81 ∷ []

unfoldable pub function_of : ℕ → Function
function_of code =
    pick (eqb code 0x13) PriorityReserve
    (pick (eqb code 0x14) Reserve
    (pick (eqb code 0x15) Release
    (pick (eqb code 0x20) NoOperation
    (pick (eqb code 0x28) Recalibrate
    (pick (one_of functions_acting_on_more code) ActsOnMore NotListed)))))

-- "The function code is carried in both octets of the 2 octets transmitted to the drive. If the 2 octets are not the same, the Command is rejected as
-- containing an illegal parameter." So is one that is not listed.
unfoldable pub function_in : ℕ → Function
function_in word = pick (eqb (word / 256) (word % 256)) (function_of (word % 256)) NotListed

abbrev pub functions_acting_here : List ℕ
functions_acting_here = 0x13 ∷ 0x14 ∷ 0x15 ∷ 0x20 ∷ 0x28 ∷ []

-- Each case on paper: the words that 004 gives it, a function code in both octets.
abbrev pub is_word_of : Function → ℕ → Bool
is_word_of PriorityReserve word = eqb word 0x1313
is_word_of Reserve word = eqb word 0x1414
is_word_of Release word = eqb word 0x1515
is_word_of NoOperation word = eqb word 0x2020
is_word_of Recalibrate word = eqb word 0x2828
is_word_of ActsOnMore word = eqb (word / 256) (word % 256) && one_of functions_acting_on_more (word % 256)
is_word_of NotListed word = not (eqb (word / 256) (word % 256) && one_of (functions_acting_here ++ functions_acting_on_more) (word % 256))

-- The promise of `function_of`.
pub record FunctionSaid (word : ℕ) (r : Function) : Type 0 where
  pub answer : r ≡ function_in word
  pub on_paper : is_word_of r word ≡ true
