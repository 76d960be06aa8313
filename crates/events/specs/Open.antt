-- A transfer opened on the words of a state.
use Rattle.std.specs.Prelude.{ℕ, List, slice_set}

-- The words with a transfer of this control opened: no word moved, none of a command kept.
unfoldable pub transfer_on : List ℕ → ℕ → List ℕ
transfer_on state control = slice_set (slice_set (slice_set (slice_set (slice_set state 14 control) 15 0) 18 0) 19 0) 20 0
