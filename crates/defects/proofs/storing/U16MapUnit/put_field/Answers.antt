-- `put_field` of the sector words meets its contract: the words of the data field are among those of all sectors.
-- Assumes nothing.
use native.Mathlib.Omega.{arith}
use Rattle.defects.proofs.SectorFields.{field_in_room}
use Rattle.defects.proofs.WordOctets.{length_words}
use Rattle.defects.proofs.storing.U16MapUnit.put_field.Goals as goal

pub store-requires : goal.store-requires
store-requires c =
    let fits = c.requires.1 in
    let room = field_in_room c.args.setup c.args.k fits.limits fits.inside in
    rw (c.field_start.ensures, length_words c.args.field.now) (omega (arith, c.requires.0, fits.words))
