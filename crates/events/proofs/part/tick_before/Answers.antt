-- `tick_before` meets its contract.
-- Assumes nothing.
use Rattle.std.proofs.Common.{◌≡◌, ◌-◌, sym, ap, ◌∙◌, arith}
use Rattle.events.specs.Part.{tick_at}
use Rattle.events.proofs.part.tick_before.Goals as goal

pub returns-then-index-eq0 : goal.returns-then-index-eq0
returns-then-index-eq0 c =
    let none : c.args.index - 1 ≡ 0 = omega (arith, c.if-index-eq0.true) in
    c.tick_at.ensures ∙ sym (ap (tick_at c.args.records.now) none)
