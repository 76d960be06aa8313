-- `defects::place::map_place` meets its contract: at each `return` the tests that led there say which row holds first, or that none does.
-- Assumes nothing.
use mathlib.Core.Path.{◌≡◌, sym, ◌∙◌}
use mathlib.Core.Bool.{true}
use borrow.Author.Tests.{le-leb, lt-leb}
use Rattle.laws.specs.Pick.{pick}
use Rattle.parts.specs.Setup.{within_limits}
use Rattle.defects.proofs.place.map_place.Goals as goal
use Rattle.defects.proofs.place.map_place.Goals.{Else-not-within_limits}

pub returns-then-not-within_limits : goal.returns-then-not-within_limits
unfolding pick
returns-then-not-within_limits c = let outside = sym c.within_limits.ensures ∙ c.if-not-within_limits.true in record { answer = rw outside }

within : (c : Else-not-within_limits) → within_limits c.args.setup ≡ true
within c = sym c.within_limits.ensures ∙ c.if-not-within_limits.false

pub returns-then-data_fields-k : goal.returns-then-data_fields-k
unfolding pick
returns-then-data_fields-k c =
    record { answer = rw (within (goal.at.returns-then-data_fields-k c).Else-not-within_limits, le-leb _ _ (rw c.data_fields.ensures at c.if-data_fields-k.true)) }

pub place_of-requires : goal.place_of-requires
place_of-requires c =
    (within (goal.at.place_of-requires c).Else-not-within_limits, rw c.data_fields.ensures at c.if-data_fields-k.false)

pub returns : goal.returns
unfolding pick
returns c =
    record { answer = rw (within (goal.at.returns c).Else-not-within_limits, lt-leb _ _ (rw c.data_fields.ensures at c.if-data_fields-k.false), c.place_of.ensures) }
