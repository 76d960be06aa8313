-- `defects::sectors::field_start` meets its contract: the place of a data field is one of the drive.
-- Assumes nothing.
use native.Mathlib.Omega.{arith}
use Rattle.parts.specs.Setup.{sector_start}
use Rattle.parts.proofs.Bounds.{inside, limits, start_exact, start_small}
use Rattle.defects.specs.Sectors.{field_start}
use Rattle.defects.proofs.Places.{places}
use Rattle.defects.proofs.sectors.field_start.Goals as goal

pub overflow_add-result : goal.overflow_add-result
unfolding sector_start
overflow_add-result c =
    let place = places.inside _ _ c.requires.0 c.requires.1 in
    let few = start_small _ _ (limits _ c.requires.0) (inside _ _ place) in
    rw (c.sector_start.ensures, c.place_of.ensures, start_exact _ _ c.requires.0 place) (omega (arith, few))

pub returns : goal.returns
unfolding field_start
returns c =
    rw (c.sector_start.ensures, c.place_of.ensures, start_exact _ _ c.requires.0 (places.inside _ _ c.requires.0 c.requires.1))
