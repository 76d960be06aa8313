-- "Events and refusals": the rows by their numbers, and the order in which they are tested.
use Rattle.std.specs.Prelude.{ℕ, Bool, not, ◌||◌, List, [], ◌∷◌, ltb, eqb, length}
use Rattle.laws.specs.Rows.{Row, first, ◌when◌}
use Rattle.parts.specs.Tests.{is_taking, is_giving, is_outside_limits, is_disowned, is_broken_transfer, has_stray_bit, is_misaddressed, changes_mode}
use Rattle.parts.specs.Setup.{sector_words, all_words, is_place, is_target}
use Rattle.parts.specs.Holding.{is_busy}
use Rattle.parts.specs.Kind.{uses_only_its_own}
use Rattle.parts.specs.declared.kind.Kind.{Kind}
use Rattle.parts.specs.declared.kind.Kind.TheVariants.{Select, Deselect, Use, Reset, Unknown}
use Rattle.parts.specs.declared.kind.Work.{Work}
use Rattle.parts.specs.declared.kind.Work.TheVariants.{DataControl, WordFromHost, TakeWord, End, Position, Target, ReadStatus}
use Rattle.parts.specs.declared.setup.Setup.{Setup}
use Rattle.drive.specs.declared.drive.Drive.{Drive}
use Rattle.parts.specs.declared.event.Event.{Event}

-- ---- the rows

-- "state handed in with a number outside its limits or a position or target outside the drive; a port selected, a hold or a transfer without
-- that port as owner; an owner neither selected nor holding; a transfer open with nobody selected, with a control that opens none, or with all
-- its words moved or more; a pending bit the base never sets"
unfoldable pub row11 : Drive → Bool
row11 d =
    is_outside_limits d.setup d.holding
    || not (is_place d.setup d.place)
    || not (is_target d.setup d.target)
    || is_disowned d.holding d.transfer
    || is_broken_transfer d.setup d.holding d.transfer
    || has_stray_bit d.pending0
    || has_stray_bit d.pending1

-- "The sector slice must hold every sector; staging must hold one sector."
unfoldable pub row10 : Setup → List ℕ → List ℕ → Bool
row10 s sectors staging = ltb (length sectors) (all_words s) || ltb (length staging) (sector_words s)

-- "port is neither 0 nor 1"
abbrev pub row1 : Event → Bool
row1 e = ltb 1 e.port

-- "event: kind not 1 to 10 or an unused argument octet not zero"
abbrev pub row8 : Kind → Event → Bool
row8 k e = not (uses_only_its_own k e)

-- "Select, port already selected"
abbrev pub row3 : Drive → Event → Bool
row3 d e = eqb d.holding.selected e.port

-- "Select, octet bit 7 set or address (bits 6 to 4) not ours"
abbrev pub row4 : Drive → Event → Bool
row4 d e = is_misaddressed e.a0 d.setup.address

-- "Select, bit 3 or 2 set (IPI-2 modes can't change)"
abbrev pub row5 : Event → Bool
row5 e = changes_mode e.a0

-- "Select, drive busy by the rule below"
abbrev pub row6 : Drive → Event → Bool
row6 d e = is_busy d.holding e.port e.a0

-- "kinds 2 to 9, port not selected"
abbrev pub row2 : Drive → Event → Bool
row2 d e = not (eqb d.holding.selected e.port)

-- "kind 4 with no write open; 5 with no read open; 6 with neither; 2, 3, 7, 8 or 9 with one open". Commands and responses are "read by 7 and 11 as a
-- write's and a read's words".
abbrev pub is_one_open : Drive → Bool
is_one_open d = is_taking d.transfer || is_giving d.transfer

abbrev pub row7 : Work → Drive → Bool
row7 WordFromHost d = not (is_taking d.transfer)
row7 TakeWord d = not (is_giving d.transfer)
row7 End d = not (is_one_open d)
row7 DataControl d = is_one_open d
row7 Position d = is_one_open d
row7 Target d = is_one_open d
row7 ReadStatus d = is_one_open d

-- ---- the order

-- "then Select 3, 4, 5, 6; others 2, then 7. Reset is never refused after 8."
abbrev pub rows_of : Kind → Drive → Event → List Row
rows_of Select d e = 3 when row3 d e ∷ 4 when row4 d e ∷ 5 when row5 e ∷ 6 when row6 d e ∷ []
rows_of Deselect d e = 2 when row2 d e ∷ 7 when is_one_open d ∷ []
rows_of (Use work) d e = 2 when row2 d e ∷ 7 when row7 work d ∷ []
rows_of Reset d e = []
rows_of Unknown d e = []

-- "Events test 11, 10, 1, 8; then" those of the kind.
abbrev pub own_rows : Kind → Drive → Event → List Row
own_rows k d e = 8 when row8 k e ∷ rows_of k d e

abbrev pub rows : Kind → Drive → Event → List ℕ → List ℕ → List Row
rows k d e sectors staging = 11 when row11 d ∷ 10 when row10 d.setup sectors staging ∷ 1 when row1 e ∷ own_rows k d e

unfoldable pub refusal_of : Kind → Drive → Event → List ℕ → List ℕ → ℕ
refusal_of k d e sectors staging = first (rows k d e sectors staging)
