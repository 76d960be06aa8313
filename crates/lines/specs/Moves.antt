-- "Listed moves": the list, the table's entry for a pair of settings, and what the call says of a pair.
use Rattle.std.specs.Prelude.{ℕ, ◌+◌, ◌*◌, ◌/◌, ◌%◌, ◌<◌, ◌≡◌, Bool, false, ◌&&◌, ◌||◌, List, [], ◌∷◌, Result, map, eqb, ltb, get_or}
use Rattle.laws.specs.Pick.{pick}
use Rattle.laws.specs.Rows.{Row, ◌when◌, refused_or}
use Rattle.laws.specs.Lists.{table_from, count_of}
use Rattle.lines.specs.Line.{all_lines, moved_owners}
use Rattle.lines.specs.declared.line.Side.TheVariants.{Controller, Drive}
use Rattle.lines.specs.declared.moves.Move.{Move}
use Rattle.lines.specs.declared.moves.Move.TheVariants.{Same, Controllers, Drives, Undefined}
use Rattle.refusals.specs.Refusal.{on_paper}
use Rattle.refusals.specs.declared.refusal.Refusal.{Refusal}

infix 70 ◌⟶◌
pub record Pair : Type 0 where
  pub old : ℕ
  pub new : ℕ

abbrev pub ◌⟶◌ : ℕ → ℕ → Pair
old ⟶ new = record { old = old; new = new }

-- "controller: 0→4, 4→0, 0→1, 1→0, 0→16, 16→0, 24→25, 27→26, 24→28, 30→31, 29→28, 30→26, 20→16, 24→8"
abbrev pub controllers_moves : List Pair
controllers_moves =
    0 ⟶ 4 ∷ 4 ⟶ 0 ∷ 0 ⟶ 1 ∷ 1 ⟶ 0 ∷ 0 ⟶ 16 ∷ 16 ⟶ 0 ∷ 24 ⟶ 25 ∷ 27 ⟶ 26 ∷ 24 ⟶ 28 ∷ 30 ⟶ 31 ∷ 29 ⟶ 28 ∷ 30 ⟶ 26 ∷ 20 ⟶ 16 ∷ 24 ⟶ 8 ∷ []

-- "drive: 16→24, 25→27, 26→24, 28→20, 28→30, 31→29, 8→0"
abbrev pub drives_moves : List Pair
drives_moves = 16 ⟶ 24 ∷ 25 ⟶ 27 ∷ 26 ⟶ 24 ∷ 28 ⟶ 20 ∷ 28 ⟶ 30 ∷ 31 ⟶ 29 ∷ 8 ⟶ 0 ∷ []

abbrev pub is_listed : List Pair → ℕ → ℕ → Bool
is_listed [] old new = false
is_listed (pair ∷ pairs) old new = eqb old pair.old && eqb new pair.new || is_listed pairs old new

-- "says: same .., controller's .., drive's .., undefined": the entries 0, 1, 2 and 3.
unfoldable pub entry_of : ℕ → ℕ → ℕ
entry_of old new = pick (eqb old new) 0 (pick (is_listed controllers_moves old new) 1 (pick (is_listed drives_moves old new) 2 3))

-- "A table with an entry for each of the 1,024 pairs of settings": the entry of old and new stands at 32 times old plus new.
unfoldable pub moves_table : List ℕ
moves_table = table_from (λ at. entry_of (at / 32) (at % 32)) 0 1024

-- What an entry of the table says.
unfoldable pub said_by : ℕ → Move
said_by entry = pick (eqb entry 0) Same (pick (eqb entry 1) Controllers (pick (eqb entry 2) Drives Undefined))

-- "8 .. line: a setting over 31"
abbrev pub move_rows : ℕ → ℕ → List Row
move_rows old new = 8 when (ltb 31 old || ltb 31 new) ∷ []

-- The promise of `move_of`.
pub record MoveSaid (old new : ℕ) (r : Result Move Refusal) : Type 0 where
  pub answer : on_paper r ≡ refused_or (move_rows old new) (said_by (entry_of old new))

-- The table: "It is proved equal to the list, once over all pairs" and "same (32 pairs), controller's (14), drive's (7), undefined (971)". Said of
-- `moves_table`, which is built from the list. The code's static is this list of 1,024 numbers, as `entry`, which alone reads it, proves.
pub record TableIsTheList : Type 0 where
  pub entry : (old new : ℕ) → old < 32 → new < 32 → get_or moves_table (32 * old + new) 0 ≡ entry_of old new
  pub same : count_of 0 moves_table ≡ 32
  pub controllers : count_of 1 moves_table ≡ 14
  pub drives : count_of 2 moves_table ≡ 7
  pub undefined : count_of 3 moves_table ≡ 971

-- "every listed move changes exactly one line, which belongs to the side named": of each, the owners of the lines that differ.
pub record OneLineMoves : Type 0 where
  pub controllers : map (λ pair. moved_owners all_lines pair.old pair.new) controllers_moves ≡ map (λ pair. Controller ∷ []) controllers_moves
  pub drives : map (λ pair. moved_owners all_lines pair.old pair.new) drives_moves ≡ map (λ pair. Drive ∷ []) drives_moves
