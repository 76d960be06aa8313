-- `defects::walking::turn` meets its contract: the step is made with copy 0 of the set and with the data field.
-- Assumes nothing.
use native.Mathlib.Omega.{arith}
use Rattle.defects.proofs.Loadables.{start_few, loadable_before, judgeable}
use Rattle.defects.proofs.walking.turn.Goals as goal

pub overflow_mul-start : goal.overflow_mul-start
overflow_mul-start c =
    let l = c.requires.0 in
    let few = start_few c.args.setup c.args.k l.readable.limits (omega (arith, l.inside)) in
    rw c.field_octets.ensures (omega arith)

pub field-begun-requires : goal.field-begun-requires
field-begun-requires c = loadable_before c.args.progress.walk.original c.requires.0 c.requires.2

pub step-requires : goal.step-requires
step-requires c = judgeable _ _ _ _ c.requires.0 c.requires.1 c.requires.2 (rw c.field_octets.ensures) c.field-begun.ensures c.field-octets.ensures

pub returns : goal.returns
returns c = rw (← c.field-begun.ensures, ← c.field-octets.ensures, ← c.field_octets.ensures) c.step.ensures
