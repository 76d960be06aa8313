-- `listing::list` is safe: the defects of a map that was decoded stand in the slice.
-- Assumes nothing.
use Rattle.list_defects.proofs.Fits.{told_within}
use Rattle.list_defects.proofs.listing.list.Goals as goal

pub say_map-requires : goal.say_map-requires
say_map-requires g c = told_within (rw c.in-Ok.is at c.decode_map.ensures) c.decode_map.auto.defects
