-- `defects::defect::is_blank` meets its contract: each number of the default is 0.
-- Assumes nothing.
use mathlib.Core.Path.{◌≡◌, refl, ◌∙◌}
use lib.Dec.{eqb}
use mathlib.Core.Bool.{Bool, true, false, ◌&&◌}
use Rattle.defects.specs.Defect.{is_blank}
use Rattle.defects.proofs.defect.is_blank.Goals as goal

and_left : (a b c d : Bool) → (a && (b && (c && d))) ≡ (((a && b) && c) && d)
and_left true true c d = refl
and_left true false c d = refl
and_left false b c d = refl

pub returns : goal.returns
unfolding is_blank
returns c =
    let zeros = c.default.ensures in
    c.eq.ensures ∙ rw (zeros.0, zeros.1.0, zeros.1.1.0, zeros.1.1.1)
    (and_left (eqb c.args.d.cylinder 0) (eqb c.args.d.head 0) (eqb c.args.d.offset 0) (eqb c.args.d.length 0))
