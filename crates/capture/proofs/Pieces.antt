-- Parts written one behind the other from a list's front are one part written there.
-- Assumes nothing.
use Prim.Native.Nat.{ℕ, ◌+◌}
use mathlib.Core.Path.{◌≡◌}
use mathlib.Core.List.{List, ◌++◌}
use native.Mathlib.Nat.{zero-add}
use lib.ListN.{length, drop, length-append}
use lib.Seq.{take-append_seam, drop-append-add, drop-drop}
use Rattle.laws.specs.Lists.{written_over, written_at}

written_first : (list part : List ℕ) → written_at list 0 part ≡ written_over list part
written_first list part = rw zero-add

written_next : (list front part : List ℕ) → written_at (written_over list front) (length front) part ≡ written_over list (front ++ part)
written_next list front part =
    rw (
      take-append_seam front (drop (length front) list),
      drop-append-add front (drop (length front) list) (length part),
      drop-drop (length part) (length front) list,
      length-append front part,
    )

pub three_written : (list a b c : List ℕ) → written_at (written_at (written_at list 0 a) (length a) b) (length a + length b) c ≡ written_over list (a ++ b ++ c)
three_written list a b c = rw (written_first list a, written_next list a b, ← (length-append a b)) (written_next list (a ++ b) c)
