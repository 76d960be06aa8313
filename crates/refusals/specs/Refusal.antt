-- Every refusal and its number: 1 to 14 are document 01's table, 16 to 28 that of the maker's defect map (docs/DEFECTS.md).
use Rattle.std.specs.Prelude.{ℕ, List, [], ◌∷◌, Result, Ok, Err, get_or}
use Rattle.laws.specs.Rows.{Paper, refused_with, tells}
use Rattle.refusals.specs.declared.refusal.Refusal.{Refusal}
use Rattle.refusals.specs.declared.refusal.Refusal.TheVariants.{NoSuchPort, NotSelected, AlreadySelected, NotOurAddress, ModeCannotChange, Busy, TransferOpenOrNot, Malformed, OutsideItsLimits, SliceTooShort, UnsoundState, NoTrailer, WrongMark, WrongDistance, NoDataField, NotWhole, WrongCount, WrongFlags, WrongCopy, WrongSets, WrongSet, OutsideTheDrive, OutOfSequence, NotPadded, WrongCrc, UnlikeCopy0, BehindTheEnd}

abbrev pub number : Refusal → ℕ
-- "port is neither 0 nor 1"
number NoSuchPort = 1
-- "kinds 2 to 9, port not selected"
number NotSelected = 2
-- "Select, port already selected"
number AlreadySelected = 3
-- "Select, octet bit 7 set or address (bits 6 to 4) not ours"
number NotOurAddress = 4
-- "Select, bit 3 or 2 set (IPI-2 modes can't change)"
number ModeCannotChange = 5
-- "Select, drive busy by the rule below"
number Busy = 6
-- "kind 4 with no write open; 5 with no read open; 6 with neither; 2, 3, 7, 8 or 9 with one open"
number TransferOpenOrNot = 7
-- Octets that say nothing here: an event, a setting, a status or a value that none of them is.
number Malformed = 8
-- "power-up: a number outside its limits"
number OutsideItsLimits = 9
-- "a lent slice too short"
number SliceTooShort = 10
-- "state handed in" that no drive has, "or a follower state no trace reaches"
number UnsoundState = 11
-- "capture under 8 octets"
number NoTrailer = 12
-- "trailer mark wrong"
number WrongMark = 13
-- "trailer distance no multiple of 8, or more than the length less 8"
number WrongDistance = 14
-- Those of a defect map, by the rules of docs/DEFECTS.md.
number NoDataField = 16
number NotWhole = 17
number WrongCount = 18
number WrongFlags = 19
number WrongCopy = 20
number WrongSets = 21
number WrongSet = 22
number OutsideTheDrive = 23
number OutOfSequence = 24
number NotPadded = 25
number WrongCrc = 26
number UnlikeCopy0 = 27
number BehindTheEnd = 28

-- The refusals in the order of their numbers; 0 and 15 are nobody's.
abbrev pub by_number : List Refusal
by_number =
    Malformed
    ∷ NoSuchPort ∷ NotSelected ∷ AlreadySelected ∷ NotOurAddress ∷ ModeCannotChange ∷ Busy ∷ TransferOpenOrNot
    ∷ Malformed ∷ OutsideItsLimits ∷ SliceTooShort ∷ UnsoundState ∷ NoTrailer ∷ WrongMark ∷ WrongDistance
    ∷ Malformed
    ∷ NoDataField ∷ NotWhole ∷ WrongCount ∷ WrongFlags ∷ WrongCopy ∷ WrongSets ∷ WrongSet
    ∷ OutsideTheDrive ∷ OutOfSequence ∷ NotPadded ∷ WrongCrc ∷ UnlikeCopy0 ∷ BehindTheEnd
    ∷ []

-- The refusal with a number; of a number that no refusal has, `Malformed`.
abbrev pub named : ℕ → Refusal
named n = get_or by_number n Malformed

-- What a call answers on paper: a refusal is told by its number.
abbrev pub on_paper : {A : Type 0} → Result A Refusal → Paper A
on_paper (Ok value) = tells value
on_paper (Err refusal) = refused_with (number refusal)

-- The number that a call refuses with, 0 where it refuses nothing.
abbrev pub refusal_in : {A : Type 0} → Result A Refusal → ℕ
refusal_in (Ok value) = 0
refusal_in (Err refusal) = number refusal
