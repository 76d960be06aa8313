-- `defects::judging::is_alike` meets its contract: as long as all octets were alike, the tests left are all that can hold.
-- Assumes nothing.
use Prim.Native.Nat.{ℕ, ◌+◌, ◌-◌}
use mathlib.Core.Path.{◌≡◌}
use mathlib.Core.Bool.{true}
use Rattle.defects.specs.Offence.{first_of, tests_over}
use Rattle.defects.specs.Judging.{same_test}
use Rattle.defects.proofs.judging.is_alike.Given as goal

abbrev pub invariant-loop-i : goal.invariant-loop-i
invariant-loop-i l = (start : ℕ) → l.alike ≡ true → first_of (tests_over (same_test start l.octets l.original) l.from l.count) ≡ first_of (tests_over (same_test start l.octets l.original) l.i (l.from + l.count - l.i))
