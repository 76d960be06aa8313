-- `response_words` meets its contract.
-- Assumes nothing.
use Prim.Native.Nat.{ℕ, ◌<◌}
use mathlib.Core.Path.{◌≡◌}
use mathlib.Core.Bool.{false}
use native.Mathlib.Omega.{arith}
use lib.Dec.{eqb}
use borrow.Author.Tests.{ne_eqb}
use Rattle.laws.specs.Pick.{pick}
use Rattle.parts.specs.Command.{parameter_words}
use Rattle.parts.proofs.command.response_words.Goals as goal

pub returns-in-68 : goal.returns-in-68
unfolding parameter_words pick
returns-in-68 c = rw c.in-68.is

pub returns-in-70 : goal.returns-in-70
unfolding parameter_words pick
returns-in-70 c = rw c.in-70.is

pub returns-in-71 : goal.returns-in-71
unfolding parameter_words pick
returns-in-71 c = rw c.in-71.is

pub returns-in_default : goal.returns-in_default
unfolding parameter_words pick
returns-in_default c =
    let none = c.in_default.in_default-own.rest in
    let sent : (k : ℕ) → k < 0x40 → eqb c.args.code k ≡ false = λ k h. ne_eqb c.args.code k (λ e. omega (arith, e, h, c.requires)) in
    rw (sent 0x01 (omega arith), sent 0x04 (omega arith), sent 0x05 (omega arith), sent 0x06 (omega arith), sent 0x07 (omega arith), ne_eqb _ 0x44 none.0.0.1, ne_eqb _ 0x46 none.0.1, ne_eqb _ 0x47 none.1)
