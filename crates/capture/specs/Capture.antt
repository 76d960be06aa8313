-- "Capture": the trailer, and the parts of a capture that it tells.
use Rattle.std.specs.Prelude.{ℕ, ◌-◌, ◌/◌, ◌%◌, ◌≡◌, Bool, not, ◌||◌, List, [], ◌∷◌, Result, eqb, ltb, length, take, drop}
use Rattle.laws.specs.Rows.{Row, first, ◌when◌, unless_refused, refused_or}
use Rattle.laws.specs.Lists.{same_list}
use Rattle.laws.specs.Octets.{number_of}
use Rattle.refusals.specs.Refusal.{on_paper}
use Rattle.refusals.specs.declared.refusal.Refusal.{Refusal}
use Rattle.capture.specs.declared.capture.Capture.{Capture}

-- "49 50 49 32"
abbrev pub mark : List ℕ
mark = 0x49 ∷ 0x50 ∷ 0x49 ∷ 0x32 ∷ []

-- "Then an 8-octet trailer"
abbrev pub trailer_of : List ℕ → List ℕ
trailer_of octets = drop (length octets - 8) octets

-- "the distance back from the trailer to the first record (4, high first)"
abbrev pub distance_of : List ℕ → ℕ
distance_of octets = number_of (take 4 (trailer_of octets))

-- "and 49 50 49 32"
abbrev pub has_mark : List ℕ → Bool
has_mark octets = same_list (drop 4 (trailer_of octets)) mark

-- "Capture decoding tests 12, 13, 14": "capture under 8 octets", "trailer mark wrong", "trailer distance no multiple of 8, or more
-- than the length less 8".
abbrev pub capture_rows : List ℕ → List Row
capture_rows octets =
    12 when ltb (length octets) 8
    ∷ 13 when not (has_mark octets)
    ∷ 14 when (not (eqb (distance_of octets % 8) 0) || ltb (length octets - 8) (distance_of octets))
    ∷ []

abbrev pub capture_refusal : List ℕ → ℕ
capture_refusal octets = first (capture_rows octets)

-- Where the first record starts.
abbrev pub first_record : List ℕ → ℕ
first_record octets = length octets - 8 - distance_of octets

-- Where the first record starts, and how many records there are.
abbrev pub capture_in : List ℕ → Capture
capture_in octets = record { first = first_record octets; count = distance_of octets / 8 }

-- The promise of `decode_capture`.
pub record DecodedCapture (octets : List ℕ) (r : Result Capture Refusal) : Type 0 where
  pub answer : on_paper r ≡ refused_or (capture_rows octets) (capture_in octets)

-- "Octets before that record are bench notes, kept and ignored." None where the capture is refused.
unfoldable pub notes_of : List ℕ → List ℕ
notes_of octets = unless_refused (capture_refusal octets) [] (take (first_record octets) octets)

-- The octets from that record to the trailer, none where the capture is refused.
unfoldable pub records_of : List ℕ → List ℕ
records_of octets = unless_refused (capture_refusal octets) [] (take (distance_of octets) (drop (first_record octets) octets))

-- The promise of `notes`.
pub record NotesGiven (octets r : List ℕ) : Type 0 where
  pub notes : r ≡ notes_of octets

-- The promise of `records`.
pub record RecordsGiven (octets r : List ℕ) : Type 0 where
  pub records : r ≡ records_of octets
