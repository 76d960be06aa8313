-- `defects::judging::judge_padding` meets its contract: the first octet that is not zero is the one that the loop stops at.
-- Assumes nothing.
use Prim.Native.Nat.{◌-◌}
use mathlib.Core.Path.{◌≡◌}
use lib.ListN.{length}
use Rattle.defects.specs.Offence.{first_of, tests_over}
use Rattle.defects.specs.Judging.{zero_test, padding_tests}
use Rattle.defects.proofs.judging.judge_padding.Given as goal

abbrev pub invariant-loop-i : goal.invariant-loop-i
invariant-loop-i l = first_of (padding_tests l.start l.octets l.count) ≡ first_of (tests_over (zero_test l.start l.octets) l.i (length l.octets - 2 - l.i))
