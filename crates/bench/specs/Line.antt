-- "a line each: event, port, refusal, status in two hex digits or `--` where the answer has none."
use Rattle.std.specs.Prelude.{ℕ, List, [], ◌∷◌, ◌++◌, eqb}
use Rattle.std.proofs.Math.Option.{Option, some, none}
use Rattle.laws.specs.Pick.{pick}
use Rattle.drive.specs.Answer.{refusal_in, paper}
use Rattle.drive.specs.declared.answer.Answer.{Answer}
use Rattle.bench.specs.Text.{digit, space, newline, decimal, field, two_hex_digits}

-- "`--`"
abbrev pub no_status : List ℕ
no_status = 0x2D ∷ 0x2D ∷ []

-- "status in two hex digits or `--` where the answer has none"
abbrev pub status_text : Option ℕ → List ℕ
status_text (some status) = two_hex_digits status
status_text none = no_status

-- "event, port, refusal, status"
abbrev pub event_fields : ℕ → ℕ → ℕ → List ℕ → List ℕ
event_fields number port refusal status = field number ++ field port ++ field refusal ++ status

-- The refusal is 0 where there is none.
abbrev pub event_text : ℕ → ℕ → Answer → List ℕ
event_text number port answer = event_fields number port (refusal_in answer) (status_text (paper answer).status)

-- "a line each"
unfoldable pub line_of : ℕ → ℕ → Answer → List ℕ
line_of number port answer = event_text number port answer ++ (newline ∷ [])

-- M-103: a line that ends with a gap, "the ticks between neighbours", in decimal.
abbrev pub with_gap : List ℕ → ℕ → List ℕ
with_gap fields gap = fields ++ (space ∷ []) ++ decimal gap ++ (newline ∷ [])

unfoldable pub gap_line_of : ℕ → ℕ → Answer → ℕ → List ℕ
gap_line_of number port answer gap = with_gap (event_text number port answer) gap

-- "owner "
abbrev pub owner_word : List ℕ
owner_word = 0x6F ∷ 0x77 ∷ 0x6E ∷ 0x65 ∷ 0x72 ∷ 0x20 ∷ []

-- "none"
abbrev pub none_word : List ℕ
none_word = 0x6E ∷ 0x6F ∷ 0x6E ∷ 0x65 ∷ []

-- "`owner none`, a line each .. The last line may also be `owner 0` or `owner 1`."
unfoldable pub owner_line : ℕ → List ℕ
owner_line owner = owner_word ++ pick (eqb owner 0) (digit 0 ∷ []) (pick (eqb owner 1) (digit 1 ∷ []) none_word) ++ (newline ∷ [])
