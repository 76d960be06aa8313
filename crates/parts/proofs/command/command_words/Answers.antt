-- `command_words` meets its contract.
-- Assumes nothing.
use Prim.Native.Nat.{ℕ, ◌≤◌}
use mathlib.Core.Path.{◌≡◌}
use mathlib.Core.Bool.{false}
use native.Mathlib.Omega.{arith}
use lib.Dec.{eqb}
use borrow.Author.Tests.{ne_eqb}
use Rattle.laws.specs.Pick.{pick}
use Rattle.parts.specs.Command.{parameter_words}
use Rattle.parts.proofs.command.command_words.Goals as goal

pub returns-in-1 : goal.returns-in-1
unfolding parameter_words pick
returns-in-1 c = rw c.in-1.is

pub returns-in-4 : goal.returns-in-4
unfolding parameter_words pick
returns-in-4 c = rw c.in-4.is

pub returns-in-5 : goal.returns-in-5
unfolding parameter_words pick
returns-in-5 c = rw c.in-5.is

pub returns-in-6 : goal.returns-in-6
unfolding parameter_words pick
returns-in-6 c = rw c.in-6.is

pub returns-in-7 : goal.returns-in-7
unfolding parameter_words pick
returns-in-7 c = rw c.in-7.is

pub returns-in_default : goal.returns-in_default
unfolding parameter_words pick
returns-in_default c =
    let none = c.in_default.in_default-own.rest in
    let taken : (k : ℕ) → 0x40 ≤ k → eqb c.args.code k ≡ false = λ k h. ne_eqb c.args.code k (λ e. omega (arith, e, h, c.requires)) in
    rw (ne_eqb _ 0x01 none.0.0.0.0.1, ne_eqb _ 0x04 none.0.0.0.1, ne_eqb _ 0x05 none.0.0.1, ne_eqb _ 0x06 none.0.1, ne_eqb _ 0x07 none.1, taken 0x44 (omega arith), taken 0x46 (omega arith), taken 0x47 (omega arith))
