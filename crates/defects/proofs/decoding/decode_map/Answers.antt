-- `defects::decoding::decode_map` meets its contract: what the walk found is the answer, on either side of the refusals.
-- Assumes nothing.
use mathlib.Core.Path.{◌≡◌}
use mathlib.Core.Bool.{true, not}
use mathlib.Core.List.{[], ◌∷◌}
use borrow.Author.Tests.{ltb-false, not-false}
use Rattle.parts.specs.Setup.{within_limits}
use Rattle.defects.specs.Offence.{◌at◌when◌, no_offence, first_of}
use Rattle.defects.specs.Walk.{map_tests}
use Rattle.defects.proofs.Answers.{stopped, behind_rows}
use Rattle.defects.proofs.Offences.{passed_on, one_holds, one_passed, not_held}
use Rattle.defects.proofs.decoding.decode_map.Goals as goal
use Rattle.defects.proofs.decoding.decode_map.Goals.{In_ok-refuse_if}

pub returns-in_err-refuse_if : goal.returns-in_err-refuse_if
returns-in_err-refuse_if c = rw (passed_on c.from_residual.ensures) (stopped _ (rw (← c.within_limits.ensures) (one_holds _ _ c.in_err-refuse_if.ensures)))

nine : (c : In_ok-refuse_if) → no_offence ≡ first_of (9 at 0 when not (within_limits c.args.setup) ∷ [])
nine c = rw (← c.within_limits.ensures) c.in_ok-refuse_if.ensures

pub returns-in_err-refuse_if-2 : goal.returns-in_err-refuse_if-2
returns-in_err-refuse_if-2 c =
    rw (passed_on c.from_residual-in_err-refuse_if-2.ensures)
    (stopped _ (one_passed _ _ (nine (goal.at.returns-in_err-refuse_if-2 c).In_ok-refuse_if) (one_holds _ _ c.in_err-refuse_if-2.ensures)))

pub decode-requires : goal.decode-requires
decode-requires c =
    let limits : within_limits c.args.setup ≡ true = not-false _ (not_held _ (nine (goal.at.decode-requires c).In_ok-refuse_if)) in
    (record { limits = limits; words = tt }, ltb-false _ _ (not_held _ c.in_ok-refuse_if-2.ensures))

pub returns : goal.returns
returns c =
    let first = behind_rows _ _ (map_tests true c.args.setup c.args.octets.now) (nine (goal.at.returns c).In_ok-refuse_if) c.in_ok-refuse_if-2.ensures in
    record { answer = rw first c.decode.ensures.answer; slice = rw first c.decode.ensures.slice }
