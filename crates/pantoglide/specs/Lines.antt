-- `pg_lines` and `pg_lines_plain`: a whole trace behind a follower's octet, read by the table and without it.
use Rattle.std.specs.Prelude.{ℕ, ◌<◌, ◌≤◌, ◌≡◌, List, [], ◌∷◌, ◌↔◌, ltb, length, get_or, set}
use Rattle.laws.specs.Pick.{pick}
use Rattle.laws.specs.Rows.{Row, first, ◌when◌, unless_refused}
use Rattle.lines.specs.Follower.{is_reached}
use Rattle.lines.specs.Traces.{after}
use Rattle.lines.specs.Reading.{Read, answers_in, step_by_step, read_rows}
use Rattle.lines.specs.Turns.{read_plainly}
use Rattle.lines.specs.declared.follower.Follower.{Follower}
use Rattle.pantoglide.specs.Line.{follower_in, follower_octet, LineFollowed}

-- 10: "a lent slice too short", the follower's own or that for the answers.
abbrev pub lines_rows : List ℕ → List ℕ → List ℕ → List Row
lines_rows follower trace answers = 10 when ltb (length follower) 1 ∷ read_rows trace answers

abbrev pub lines_refusal : List ℕ → List ℕ → List ℕ → ℕ
lines_refusal follower trace answers = first (lines_rows follower trace answers)

-- The octet of the follower that is left: an octet that stands for no follower is not read and written back, but stays, every bit of it.
abbrev pub octet_left : List ℕ → Follower → List ℕ
octet_left follower last = pick (is_reached (follower_in (get_or follower 0 0))) (set follower 0 (follower_octet last)) follower

-- The promise of `pg_lines`, which reads step by step, and of `pg_lines_plain`, which reads plainly.
pub record LinesRead (read : Follower → List ℕ → Read) (follower₀ trace answers₀ : List ℕ) (r : ℕ) (follower₁ answers₁ : List ℕ) : Type 0 where
  pub refusal : r ≡ lines_refusal follower₀ trace answers₀
  pub follower : follower₁ ≡ unless_refused r follower₀ (octet_left follower₀ (read (follower_in (get_or follower₀ 0 0)) trace).last)
  pub answers : answers₁ ≡ unless_refused r answers₀ (answers_in answers₀ (read (follower_in (get_or follower₀ 0 0)) trace))

-- The two calls are alike, and behind a trace the octet stands for the follower behind it.
pub record LinesAlike : Type 0 where
  pub alike : {follower₀ trace answers₀ : List ℕ} {r : ℕ} {follower₁ answers₁ : List ℕ}
      → LinesRead read_plainly follower₀ trace answers₀ r follower₁ answers₁ ↔ LinesRead step_by_step follower₀ trace answers₀ r follower₁ answers₁
  pub next : {follower₀ trace answers₀ follower₁ answers₁ : List ℕ} → LinesRead step_by_step follower₀ trace answers₀ 0 follower₁ answers₁
      → follower_in (get_or follower₁ 0 0) ≡ after (follower_in (get_or follower₀ 0 0)) trace

-- A trace is so many calls of `pg_line`, each on the octet that the last one left: the number that a call returns is the answer to its setting.
pub record LinesAreSingles : Type 0 where
  pub none : {follower : List ℕ} (answers : List ℕ) → 1 ≤ length follower → get_or follower 0 0 < 256 → LinesRead step_by_step follower [] answers 0 follower answers
  pub one_more : {follower₀ : List ℕ} {setting r : ℕ} {follower₁ trace answers₀ follower₂ answers₁ : List ℕ} (slot : ℕ) → 1 ≤ length follower₀
      → LineFollowed follower₀ setting r follower₁ → LinesRead step_by_step follower₁ trace answers₀ 0 follower₂ answers₁
      → LinesRead step_by_step follower₀ (setting ∷ trace) (slot ∷ answers₀) 0 follower₂ (r ∷ answers₁)
