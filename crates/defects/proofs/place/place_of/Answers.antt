-- `defects::place::place_of` meets its contract: the data field is one of the cylinder, so its track and its sector are.
-- Assumes nothing.
use native.Mathlib.Omega.{arith}
use Rattle.defects.proofs.Fields.{Field, field}
use Rattle.defects.specs.Place.{place_of}
use borrow.Author.Rules.{rules}
use Rattle.defects.proofs.place.place_of.Goals as goal
use Rattle.defects.proofs.place.place_of.Goals.{Start}

known : (c : Start) → Field c.args.setup c.args.k
known c = field _ _ c.requires.0 c.requires.1

pub overflow_sub-result : goal.overflow_sub-result
overflow_sub-result c = let f =
    (known (goal.at.overflow_sub-result c).Start) in omega arith

pub overflow_sub-result-2 : goal.overflow_sub-result-2
overflow_sub-result-2 c = let f =
    (known (goal.at.overflow_sub-result-2 c).Start) in omega arith

pub nonzero_div-result : goal.nonzero_div-result
nonzero_div-result c = let f =
    (known (goal.at.nonzero_div-result c).Start) in omega arith

pub overflow_cast-result : goal.overflow_cast-result
overflow_cast-result c = let f =
    (known (goal.at.overflow_cast-result c).Start) in omega arith

pub overflow_sub-result-3 : goal.overflow_sub-result-3
overflow_sub-result-3 c = let f =
    (known (goal.at.overflow_sub-result-3 c).Start) in omega arith

pub nonzero_rem-result : goal.nonzero_rem-result
nonzero_rem-result c = let f =
    (known (goal.at.nonzero_rem-result c).Start) in omega arith

pub overflow_cast-result-2 : goal.overflow_cast-result-2
overflow_cast-result-2 c = let f =
    (known (goal.at.overflow_cast-result-2 c).Start) in omega arith

pub returns : goal.returns
unfolding place_of
returns c = search rules
