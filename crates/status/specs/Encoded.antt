-- What an encoder answers, and the lent slice after it.
use Rattle.std.specs.Prelude.{ℕ, ◌≡◌, List, [], ◌∷◌, Result, ⊤, ltb, length}
use Rattle.laws.specs.Rows.{Row, first, ◌when◌, unless_refused}
use Rattle.laws.specs.Lists.{written_over}
use Rattle.refusals.specs.Refusal.{refusal_in}
use Rattle.refusals.specs.declared.refusal.Refusal.{Refusal}

-- "all encoders [test] 10, then 8". Every status and every response is what a decoding yields, so here no row 8 can hold.
abbrev pub encode_rows : List ℕ → List ℕ → List Row
encode_rows octets slice = 10 when ltb (length slice) (length octets) ∷ []

abbrev pub encode_refusal : List ℕ → List ℕ → ℕ
encode_refusal octets slice = first (encode_rows octets slice)

-- The promise of `encode_drive_status` and `encode_response`: the octets go to the front of the slice, and the rest stays as it was.
pub record EncodedAs (octets before after : List ℕ) (r : Result ⊤ Refusal) : Type 0 where
  pub answer : refusal_in r ≡ encode_refusal octets before
  pub slice : after ≡ unless_refused (encode_refusal octets before) before (written_over before octets)
