-- "Capture", put together: notes, records and their trailer.
use Rattle.std.specs.Prelude.{ℕ, ◌+◌, ◌%◌, ◌^◌, ◌≡◌, not, ◌||◌, List, [], ◌∷◌, ◌++◌, Result, eqb, ltb, leb, length}
use Rattle.laws.specs.Rows.{Row, first, ◌when◌, unless_refused, refused_or}
use Rattle.laws.specs.Octets.{octets_of}
use Rattle.laws.specs.Lists.{written_over}
use Rattle.capture.specs.Capture.{mark}
use Rattle.refusals.specs.Refusal.{on_paper}
use Rattle.refusals.specs.declared.refusal.Refusal.{Refusal}

-- "an 8-octet trailer: the distance back from the trailer to the first record (4, high first) and 49 50 49 32"
abbrev pub trailer_for : ℕ → List ℕ
trailer_for distance = octets_of 4 distance ++ mark

-- "Octets before that record are bench notes": a capture is notes, records and the trailer.
abbrev pub capture_octets : List ℕ → List ℕ → List ℕ
capture_octets notes records = notes ++ records ++ trailer_for (length records)

-- How many octets it has.
abbrev pub capture_length : List ℕ → List ℕ → ℕ
capture_length notes records = length notes + length records + 8

-- "all encoders [test] 10, then 8": "a lent slice too short"; "what no decoding yields", which is records that are not whole, or a
-- distance that four octets cannot hold.
abbrev pub encode_rows : List ℕ → List ℕ → List ℕ → List Row
encode_rows notes records out =
    10 when ltb (length out) (capture_length notes records)
    ∷ 8 when (not (eqb (length records % 8) 0) || leb (256 ^ 4) (length records))
    ∷ []

abbrev pub encode_refusal : List ℕ → List ℕ → List ℕ → ℕ
encode_refusal notes records out = first (encode_rows notes records out)

-- The promise of `encode_capture`.
pub record EncodedCapture (notes records before after : List ℕ) (r : Result ℕ Refusal) : Type 0 where
  pub answer : on_paper r ≡ refused_or (encode_rows notes records before) (capture_length notes records)
  pub slice : after ≡ unless_refused (encode_refusal notes records before) before (written_over before (capture_octets notes records))
