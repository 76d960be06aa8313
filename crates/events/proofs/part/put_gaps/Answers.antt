-- `put_gaps` meets its contract.
-- Assumes nothing.
use Rattle.std.proofs.Common.{◌≡◌, ◌+◌, ◌-◌, arith, rules}
use Rattle.events.proofs.Parts.{gapping_start, gapping_next, gapping_ended}
use Rattle.events.proofs.part.put_gaps.Goals as goal

pub loop-i-init : goal.loop-i-init
loop-i-init c =
    gapping_start _ _ _ _ _ c.tick_before-earlier.ensures (search rules)

pub loop-i-preserved : goal.loop-i-preserved
loop-i-preserved c =
    let inv = c.loop-i.invariant in
    let same : c.args.from + (c.loop-i.i + 1) - 1 ≡ c.args.from + c.loop-i.i = omega arith in
    record {
      within = search rules;
      room = search rules;
      before = rw same c.tick_at-later.ensures;
      small = search rules;
      told = gapping_next _ _ c.loop-i-test.true c.requires.2 (search rules) c.tick_at-later.ensures c.wrapping_sub_u16.ensures.value inv;
    }

pub returns : goal.returns
returns c =
    gapping_ended c.loop-i-test.false c.loop-i.invariant
