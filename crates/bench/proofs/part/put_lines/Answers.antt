-- `bench::part::put_lines` meets its contract: at each turn, what stands there and what is left to write are the whole.
-- Assumes nothing.
use mathlib.Core.Path.{sym, ap, ◌∙◌}
use mathlib.Core.List.{append_assoc, append-nil}
use native.Mathlib.Omega.{arith}
use lib.ListN.{length, length-append}
use Rattle.bench.proofs.Told.{told_all, told_next, told_none}
use Rattle.bench.proofs.part.put_lines.Goals as goal

pub loop-i-init : goal.loop-i-init
loop-i-init c =
    let told = c.args.told.now in
    rw (told_all told.records.now told.from told.count told.answers.now told.gaps.now)

pub put_told_line-requires : goal.put_told_line-requires
put_told_line-requires c =
    let told = c.args.told.now in
    let next = told_next told.records.now told.from told.count told.answers.now told.gaps.now c.loop-i.i c.loop-i-test.true in
    let whole = simp length-append at (ap length (rw next at c.loop-i.invariant)) in
    omega (arith, c.requires)

pub loop-i-preserved : goal.loop-i-preserved
loop-i-preserved c =
    let told = c.args.told.now in
    let next = told_next told.records.now told.from told.count told.answers.now told.gaps.now c.loop-i.i c.loop-i-test.true in
    rw (c.put_told_line.ensures, append_assoc) (rw next at c.loop-i.invariant)

pub returns : goal.returns
returns c =
    let told = c.args.told.now in
    let none = told_none told.records.now told.from told.count told.answers.now told.gaps.now c.loop-i.i (omega arith) in
    sym (append-nil c.loop-i.text.items) ∙ (rw none at c.loop-i.invariant)
