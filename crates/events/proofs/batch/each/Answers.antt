-- `each` meets its contract.
-- Assumes nothing.
use Rattle.std.proofs.Common.{sym, refl, arith, rules}
use Rattle.drive.proofs.Turns.{passable}
use Rattle.refusals.proofs.OnPaper.{passed_on, number_is_not_0}
use Rattle.events.proofs.Batches.{going_start, going_next, going_stopped, going_ended}
use Rattle.events.proofs.batch.each.Goals as goal

pub loop-i-init : goal.loop-i-init
loop-i-init c =
    record { same_state = refl; same_sectors = refl; same_staging = refl; same_out = refl; going = going_start _ _ _ _ _ _ _ c.requires.0.long c.requires.1 }

pub step-requires : goal.step-requires
step-requires c =
    let going = c.loop-i.invariant.going in
    (record { long = going.long; passable = passable _ _ _ (sym going.judged) }, search rules)

pub returns-in_err-step : goal.returns-in_err-step
returns-in_err-step c =
    rw (passed_on c.from_residual.ensures)
    (going_stopped _ _ _ _ _ _ _ _ _ _ _ _ _ _ _ _ _ c.loop-i-test.true c.requires.0.quiet (number_is_not_0 _) c.loop-i.invariant.going (rw c.event_at-event.ensures at c.in_err-step.ensures))

pub loop-i-preserved : goal.loop-i-preserved
loop-i-preserved c =
    let inv = c.loop-i.invariant in
    record {
      same_state = search rules;
      same_sectors = search rules;
      same_staging = search rules;
      same_out = search rules;
      going = going_next _ _ _ _ _ _ _ _ _ _ _ _ _ _ _ _ _ c.loop-i-test.true (omega (arith, inv.same_out, c.requires.0.room)) refl inv.going (rw c.event_at-event.ensures at c.in_ok-step.ensures);
    }

pub returns : goal.returns
returns c =
    let inv = c.loop-i.invariant in
    going_ended _ _ _ _ _ _ _ _ _ _ _ _ (omega (arith, c.loop-i-test.false)) (search rules) c.requires.0.quiet inv.going
