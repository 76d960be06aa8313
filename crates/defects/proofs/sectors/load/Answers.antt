-- `defects::sectors::load` meets its contract: the words of the data field are among those of all sectors.
-- Assumes nothing.
use mathlib.Core.Path.{sym, ◌∙◌}
use native.Mathlib.Omega.{arith}
use Rattle.parts.proofs.Bounds.{limits}
use Rattle.defects.specs.Sectors.{sector_field}
use Rattle.defects.proofs.SectorFields.{field_in_room, field_of_cylinder}
use Rattle.defects.proofs.sectors.load.Goals as goal

pub load_words-requires : goal.load_words-requires
load_words-requires c =
    let has = c.requires in
    let fits = field_in_room c.args.setup c.args.k has.limits has.inside in
    let few = limits _ has.limits in
    (rw c.field_start.ensures (omega arith), omega arith)

pub returns : goal.returns
unfolding sector_field
returns c =
    let has = c.requires in
    c.load_words.ensures ∙ rw c.field_start.ensures (sym (field_of_cylinder c.args.setup c.args.sectors.now has.limits has.words c.args.k has.inside))
