-- `pg_line`: the follower as one octet.
use Rattle.std.specs.Prelude.{ℕ, ◌+◌, ◌%◌, ◌≤◌, ◌≡◌, List, ◌∷◌, ltb, length, get_or, set}
use Rattle.laws.specs.Pick.{pick}
use Rattle.laws.specs.Rows.{Row, first, ◌when◌, unless_refused}
use Rattle.laws.specs.Octets.{bit}
use Rattle.lines.specs.Follower.{idle, step_rows, step_of}
use Rattle.lines.specs.Reading.{octet_of}
use Rattle.lines.specs.declared.follower.Follower.{Follower}

-- "one octet, 0 at the start. Bits 0 to 4 are the setting of the lines; bit 5 is set where the history is there that a later move needs", and bit 6
-- where the follower is lost. An octet with bit 7 set stands for no follower: 32 is a setting that no trace reaches.
unfoldable pub setting_in : ℕ → ℕ
setting_in octet = pick (bit 7 octet) 32 (octet % 32)

unfoldable pub follower_in : ℕ → Follower
follower_in octet = record { setting = setting_in octet; history = bit 5 octet; lost = bit 6 octet }

unfoldable pub follower_octet : Follower → ℕ
follower_octet f = f.setting % 32 + pick f.history 32 0 + pick f.lost 64 0

-- "Returns 10 if follower_length is 0; otherwise 11 if no trace from the start leads to *follower; otherwise 8 if the setting is over 31": the
-- follower's own rows behind the first.
abbrev pub line_rows : List ℕ → ℕ → List Row
line_rows follower setting = 10 when ltb (length follower) 1 ∷ step_rows (follower_in (get_or follower 0 0)) setting

abbrev pub line_refusal : List ℕ → ℕ → ℕ
line_refusal follower setting = first (line_rows follower setting)

-- The promise of `pg_line`: a refusal changes nothing, and no octet but the first is changed.
pub record LineFollowed (follower₀ : List ℕ) (setting r : ℕ) (follower₁ : List ℕ) : Type 0 where
  pub answer : r ≡ unless_refused (line_refusal follower₀ setting) (line_refusal follower₀ setting) (octet_of (step_of (follower_in (get_or follower₀ 0 0)) setting).answer)
  pub follower : follower₁ ≡ unless_refused (line_refusal follower₀ setting) follower₀ (set follower₀ 0 (follower_octet (step_of (follower_in (get_or follower₀ 0 0)) setting).follower))

-- The number of a refusal, 0 for the answers from 16 on.
abbrev pub refusal_in : ℕ → ℕ
refusal_in r = pick (ltb r 16) r 0

-- Calls one after another follow the lines as the follower does: an octet after a call stands for the follower after that step.
pub record LinesFollow : Type 0 where
  pub start : follower_in 0 ≡ idle
  pub next : {follower₀ : List ℕ} {setting r : ℕ} {follower₁ : List ℕ} → 1 ≤ length follower₀ → LineFollowed follower₀ setting r follower₁
      → follower_in (get_or follower₁ 0 0) ≡ (step_of (follower_in (get_or follower₀ 0 0)) setting).follower
