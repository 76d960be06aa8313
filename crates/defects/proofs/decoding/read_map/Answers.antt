-- `defects::decoding::read_map` meets its contract: as for octets, once the cylinder has its place.
-- Assumes nothing.
use Prim.Native.Nat.{◌*◌, ◌/◌, ◌≤◌}
use mathlib.Core.Path.{◌≡◌}
use mathlib.Core.Bool.{true, false, not, ◌||◌}
use mathlib.Core.List.{[], ◌∷◌}
use native.Mathlib.Omega.{arith}
use borrow.Author.Tests.{ltb-false, not-false}
use lib.Dec.{ltb}
use lib.ListN.{length}
use Rattle.laws.proofs.Tests.{or_l, or_r}
use Rattle.parts.specs.Setup.{within_limits, all_words}
use Rattle.defects.specs.Offence.{◌at◌when◌, no_offence, first_of}
use Rattle.defects.specs.Place.{field_octets, data_fields}
use Rattle.defects.specs.Sectors.{last_cylinder}
use Rattle.defects.specs.Walk.{map_tests}
use Rattle.defects.proofs.Answers.{reading_stopped, behind_rows}
use Rattle.defects.proofs.Loadables.{start_few}
use Rattle.defects.proofs.Offences.{passed_on, one_holds, one_passed, not_held}
use Rattle.defects.proofs.SectorFields.{lacks_words, length_cylinder}
use Rattle.defects.proofs.decoding.read_map.Goals as goal
use Rattle.defects.proofs.decoding.read_map.Goals.{In_ok-refuse_if, After-lacks_room-lacks_words, In_ok-refuse_if-2}

pub returns-in_err-refuse_if : goal.returns-in_err-refuse_if
returns-in_err-refuse_if c = rw (passed_on c.from_residual.ensures) (reading_stopped _ (rw (← c.within_limits.ensures) (one_holds _ _ c.in_err-refuse_if.ensures)))

nine : (c : In_ok-refuse_if) → no_offence ≡ first_of (9 at 0 when not (within_limits c.args.setup) ∷ [])
nine c = rw (← c.within_limits.ensures) c.in_ok-refuse_if.ensures

small : (c : In_ok-refuse_if) → within_limits c.args.setup ≡ true
small c = not-false _ (not_held _ (nine c))

pub overflow_mul-size : goal.overflow_mul-size
overflow_mul-size c =
    let few = start_few c.args.setup (data_fields c.args.setup) (small (goal.at.overflow_mul-size c).In_ok-refuse_if) (omega arith) in
    rw (c.field_octets.ensures, c.data_fields.ensures) (omega arith)

-- 10, as it is tested
short : (c : After-lacks_room-lacks_words) → let a = c.args in
    (ltb (length a.sectors.now) (all_words a.setup) || ltb (length a.defects.now) (data_fields a.setup * field_octets a.setup / 3))
    ≡ (c.lacks_room-lacks_words.result || ltb (length a.defects.now) (c.data_fields.result * c.field_octets.result / 3))
short c =
    let limits : within_limits c.args.setup ≡ true = not-false _ (not_held (9 at 0 when not (within_limits c.args.setup)) (rw (← c.within_limits.ensures) c.in_ok-refuse_if.ensures)) in
    rw (c.lacks_room-lacks_words.ensures, lacks_words _ _ _ limits c.sector_words.ensures, c.field_octets.ensures, c.data_fields.ensures)

pub returns-in_err-refuse_if-2 : goal.returns-in_err-refuse_if-2
returns-in_err-refuse_if-2 c =
    let here = goal.at.returns-in_err-refuse_if-2 c in
    rw (passed_on c.from_residual-in_err-refuse_if-2.ensures)
    (reading_stopped _ (rw (short here.After-lacks_room-lacks_words) (one_passed _ _ (nine here.In_ok-refuse_if) (one_holds _ _ c.in_err-refuse_if-2.ensures))))

ten : (c : In_ok-refuse_if-2) → let a = c.args in
    no_offence ≡ first_of (10 at 0 when (ltb (length a.sectors.now) (all_words a.setup) || ltb (length a.defects.now) (data_fields a.setup * field_octets a.setup / 3)) ∷ [])
ten c =
    let limits : within_limits c.args.setup ≡ true = not-false _ (not_held (9 at 0 when not (within_limits c.args.setup)) (rw (← c.within_limits.ensures) c.in_ok-refuse_if.ensures)) in
    rw (← lacks_words _ _ _ limits c.sector_words.ensures, ← c.lacks_room-lacks_words.ensures, ← c.field_octets.ensures, ← c.data_fields.ensures) c.in_ok-refuse_if-2.ensures

pub decode-requires : goal.decode-requires
decode-requires c =
    let here = goal.at.decode-requires c in
    let a = c.args in
    let limits = small here.In_ok-refuse_if in
    let enough = not_held _ (ten here.In_ok-refuse_if-2) in
    let words : all_words a.setup ≤ length a.sectors.now = ltb-false _ _ (or_l _ _ enough) in
    let listed = ltb-false _ _ (or_r (ltb (length a.sectors.now) (all_words a.setup)) _ enough) in
    (record { limits = limits; words = words }, rw (length_cylinder a.setup a.sectors.now limits words) listed)

pub returns : goal.returns
returns c =
    let here = goal.at.returns c in
    let first = behind_rows _ _ (map_tests false c.args.setup (last_cylinder c.args.setup c.args.sectors.now)) (nine here.In_ok-refuse_if) (ten here.In_ok-refuse_if-2) in
    record { answer = rw first c.decode.ensures.answer; slice = rw first c.decode.ensures.slice }
