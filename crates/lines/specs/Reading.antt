-- A whole trace at once, an octet for each answer: the promise of `follow` and of `read_plainly`, which differ in what they read it by.
use Rattle.std.specs.Prelude.{ℕ, ◌≡◌, List, [], ◌∷◌, Result, Ok, Err, map, ltb, length}
use Rattle.laws.specs.Rows.{Row, first, ◌when◌, unless_refused, refused_or}
use Rattle.laws.specs.Lists.{written_over}
use Rattle.lines.specs.Traces.{after, answers}
use Rattle.lines.specs.declared.follower.Follower.{Follower}
use Rattle.lines.specs.declared.follower.Answer.{Answer}
use Rattle.lines.specs.declared.follower.Answer.TheVariants.{Same, Controllers, Drives, Undefined, Lost, Idle}
use Rattle.refusals.specs.Refusal.{number, on_paper}
use Rattle.refusals.specs.declared.refusal.Refusal.{Refusal}

-- The answers are from 16 on, a refusal is its number.
abbrev pub octet_said : Answer → ℕ
octet_said Same = 16
octet_said Controllers = 17
octet_said Drives = 18
octet_said Undefined = 19
octet_said Lost = 20
octet_said Idle = 21

unfoldable pub octet_of : Result Answer Refusal → ℕ
octet_of (Ok said) = octet_said said
octet_of (Err refusal) = number refusal

-- The promise of `Followed::octet`.
pub record OctetSaid (said : Result Answer Refusal) (r : ℕ) : Type 0 where
  pub answer : r ≡ octet_of said

-- What is read of a trace: "the same list of answers and the same last state".
pub record Read : Type 0 where
  pub answers : List (Result Answer Refusal)
  pub last : Follower

-- The room that is lent for the answers: their octets in front, and what was behind them.
abbrev pub answers_in : List ℕ → Read → List ℕ
answers_in room read = written_over room (map octet_of read.answers)

-- What a reader leaves.
abbrev pub Leaves : Read → List ℕ → Follower → List ℕ → Type 0
Leaves read room₀ last room₁ = (last ≡ read.last) × (room₁ ≡ answers_in room₀ read)

-- By the table: so many steps.
abbrev pub step_by_step : Follower → List ℕ → Read
step_by_step f trace = record { answers = answers f trace; last = after f trace }

-- 10: "a lent slice too short".
abbrev pub read_rows : List ℕ → List ℕ → List Row
read_rows trace room = 10 when ltb (length room) (length trace) ∷ []

-- The promise of `follow` and of `read_plainly`: a refusal changes nothing.
pub record TraceRead (read : Read) (trace answers₀ : List ℕ) (r : Result Follower Refusal) (answers₁ : List ℕ) : Type 0 where
  pub answer : on_paper r ≡ refused_or (read_rows trace answers₀) read.last
  pub answers : answers₁ ≡ unless_refused (first (read_rows trace answers₀)) answers₀ (answers_in answers₀ read)
