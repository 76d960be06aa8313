-- `defects::source::Source::size` meets its contract: the last cylinder has all its data fields.
-- Assumes nothing.
use mathlib.Core.Path.{sym}
use native.Mathlib.Omega.{arith}
use Rattle.defects.specs.Place.{data_fields}
use Rattle.defects.proofs.Loadables.{start_few}
use Rattle.defects.proofs.SectorFields.{length_cylinder}
use Rattle.defects.proofs.source.Source.size.Goals as goal

pub overflow_mul-result : goal.overflow_mul-result
overflow_mul-result c =
    let few = start_few c.args.setup (data_fields c.args.setup) c.requires.limits (omega arith) in
    rw (c.field_octets.ensures, c.data_fields.ensures) (omega arith)

pub returns-in-Sectors : goal.returns-in-Sectors
returns-in-Sectors c =
    let words = rw c.in-Sectors.is at c.requires.words in
    rw (c.in-Sectors.is, c.field_octets.ensures, c.data_fields.ensures) (sym (length_cylinder c.args.setup c.in-Sectors.field-0.now c.requires.limits words))
