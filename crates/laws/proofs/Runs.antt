-- A run of a list, read element by element.
-- Assumes nothing.
use Prim.Native.Nat.{ℕ, zero, suc, ◌+◌, ◌-◌, ◌≤◌}
use mathlib.Core.Path.{◌≡◌, refl, sym, ap, ◌∙◌}
use mathlib.Core.List.{List, ◌∷◌}
use native.Mathlib.Omega.{arith}
use lib.ListN.{length, get_or, take, drop, length-drop}
use lib.Seq.{drop-cons, take_all}
use Rattle.laws.specs.Lists.{table_from}

pub run_read : (list : List ℕ) (start count : ℕ) → start + count ≤ length list → take count (drop start list) ≡ table_from (λ i. get_or list i 0) start count
run_read list start zero h = refl
run_read list start (suc count) h = rw (drop-cons list start 0 (omega arith)) (ap (λ (rest : List ℕ). get_or list start 0 ∷ rest) (run_read list (suc start) count (omega arith)))

pub rest_read : (list : List ℕ) (start count : ℕ) → start + count ≡ length list → drop start list ≡ table_from (λ i. get_or list i 0) start count
rest_read list start count h =
    let short : length (drop start list) ≤ count = simp length-drop (omega arith) in
    sym (take_all count (drop start list) short) ∙ run_read list start count (omega arith)

pub rest_whole : (list : List ℕ) (start : ℕ) → take (length list - start) (drop start list) ≡ drop start list
rest_whole list start = take_all (length list - start) (drop start list) (simp length-drop (omega arith))
