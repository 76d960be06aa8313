-- `defects::judging::judge_each` meets its contract: the first octet that differs is the one that the loop stops at.
-- Assumes nothing.
use Prim.Native.Nat.{◌+◌, ◌-◌}
use mathlib.Core.Path.{◌≡◌}
use Rattle.defects.specs.Offence.{first_of, tests_over}
use Rattle.defects.specs.Judging.{same_test}
use Rattle.defects.proofs.judging.judge_each.Given as goal

abbrev pub invariant-loop-i : goal.invariant-loop-i
invariant-loop-i l = first_of (tests_over (same_test l.start l.octets l.original) l.from l.count) ≡ first_of (tests_over (same_test l.start l.octets l.original) l.i (l.from + l.count - l.i))
