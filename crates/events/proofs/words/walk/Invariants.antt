-- `walk` meets its contract: the words walked over are alike, and those that are left decide.
-- Assumes nothing.
use Rattle.std.proofs.Common.{◌≡◌, ℕ, ◌+◌, ◌-◌, ◌≤◌, List, take, drop}
use Rattle.events.specs.Words.{alike}
use Rattle.events.proofs.words.walk.Given as goal

-- How many of the words that are left are alike.
abbrev pub left : List ℕ → ℕ → List ℕ → ℕ → ℕ → ℕ → ℕ
left a i b k n j = alike (take (n - j) (drop (i + j) a)) (take (n - j) (drop (k + j) b))

abbrev pub invariant-loop-walked : goal.invariant-loop-walked
invariant-loop-walked l = (l.walked ≤ l.n) × (alike (take l.n (drop l.i l.a)) (take l.n (drop l.k l.b)) ≡ l.walked + left l.a l.i l.b l.k l.n l.walked)

abbrev pub decreases-loop-walked : goal.decreases-loop-walked
decreases-loop-walked l = l.n - l.walked
