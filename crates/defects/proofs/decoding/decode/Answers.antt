-- `defects::decoding::decode` meets its contract: the judging comes first, and only a map without offence is listed.
-- Assumes nothing.
use mathlib.Core.Path.{sym}
use native.Mathlib.Omega.{arith}
use Rattle.parts.proofs.Bounds.{limits}
use Rattle.defects.specs.Source.{string_in, is_alone}
use Rattle.defects.proofs.Answers.{refused_map, told_map}
use Rattle.defects.proofs.Decoded.{storage_inside}
use Rattle.defects.proofs.Offences.{passed_on}
use Rattle.defects.proofs.Thirds.{third_enough}
use Rattle.defects.proofs.decoding.decode.Goals as goal

pub returns-in_err-judged : goal.returns-in_err-judged
returns-in_err-judged c = rw (passed_on c.from_residual.ensures) (refused_map _ _ _ _ c.in_err-judged.ensures.offence)

pub gather-count-requires : goal.gather-count-requires
gather-count-requires c =
    let ends = c.in_ok-judged.ensures.ends in
    let third = third_enough _ _ _ _ ends in
    record { readable = c.requires.0; within = ends.within; whole = ends.whole; going = ends.going; held = omega (arith, c.requires.1) }

pub overflow_cast-result : goal.overflow_cast-result
overflow_cast-result c =
    let a = c.args in
    let ends = c.in_ok-judged.ensures.ends in
    let inside = storage_inside (is_alone a.source) a.setup (string_in a.setup a.source) (sym c.in_ok-judged.ensures.offence) in
    let few = limits a.setup c.requires.0.limits in
    record { fits = rw ends.walk (omega (arith, inside.0)) }

pub returns : goal.returns
returns c = told_map _ _ _ c.in_ok-judged.ensures.offence _ _ _ _ c.in_ok-judged.ensures.ends c.gather-count.ensures.0 c.gather-count.ensures.1
