-- The table is the list of moves, its counts, and the one line that each listed move changes: each by one computed test.
-- Assumes nothing.
use Prim.Native.Nat.{ℕ, ◌+◌, ◌*◌, ◌/◌, ◌%◌, ◌<◌}
use mathlib.Core.Path.{◌≡◌, refl, sym, ap₂, ◌∙◌}
use mathlib.Core.Bool.{true≢false, false}
use native.Mathlib.Omega.{arith}
use lib.Dec.{eqb}
use lib.ListN.{length, get_or}
use Rattle.laws.specs.Pick.{pick}
use Rattle.laws.proofs.Pick.{either, cases}
use Rattle.laws.proofs.Lists.{length_table, table_at}
use Rattle.lines.specs.Moves.{entry_of, moves_table, TableIsTheList, OneLineMoves}

in_table : (old new : ℕ) → old < 32 → new < 32 → get_or moves_table (32 * old + new) 0 ≡ entry_of old new
unfolding moves_table
in_table old new h k =
    table_at (λ at. entry_of (at / 32) (at % 32)) 1024 (32 * old + new) (omega arith) ∙ ap₂ entry_of (omega arith) (omega arith)

pub count_of_pairs : length moves_table ≡ 1024
unfolding moves_table
count_of_pairs = length_table (λ at. entry_of (at / 32) (at % 32)) 0 1024

pub table_is_the_list : TableIsTheList
unfolding moves_table entry_of pick
table_is_the_list = record { entry = in_table; same = refl; controllers = refl; drives = refl; undefined = refl }

pub one_line_moves : OneLineMoves
unfolding pick
one_line_moves = record { controllers = refl; drives = refl }

-- of two settings that differ the table does not say that they are the same
pub not_same : (old new : ℕ) → eqb old new ≡ false → eqb (entry_of old new) 0 ≡ false
unfolding entry_of
not_same old new h =
    cases (λ (entry : ℕ). eqb entry 0 ≡ false) (eqb old new) (λ e. absurd (true≢false (sym e ∙ h)))
    (λ e. either (λ (entry : ℕ). eqb entry 0 ≡ false) _ refl (either (λ (entry : ℕ). eqb entry 0 ≡ false) _ refl refl))
