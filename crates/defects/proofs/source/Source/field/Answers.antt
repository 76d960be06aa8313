-- `defects::source::Source::field` meets its contract: either way it is the data field.
-- Assumes nothing.
use native.Mathlib.Omega.{arith}
use Rattle.parts.proofs.Bounds.{limits}
use Rattle.defects.proofs.Loadables.{window}
use Rattle.defects.proofs.source.Source.field.Goals as goal

pub shared_ref_as_front-result : goal.shared_ref_as_front-result
shared_ref_as_front-result c =
    let few = limits c.args.setup c.requires.readable.limits in
    omega (arith, c.field_octets-size.ensures)

pub returns-in-Octets : goal.returns-in-Octets
returns-in-Octets c = rw c.in-Octets.is (window c.args.setup c.in-Octets.octets.now c.args.k c.field_octets-size.result c.field_octets-size.ensures)
