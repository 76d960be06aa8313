-- `lacks_room` meets its contract.
-- Assumes nothing.
use mathlib.Core.Path.{sym, ◌∙◌}
use Rattle.parts.specs.Setup.{lacks_room}
use Rattle.parts.proofs.setup.Setup.lacks_room.Goals as goal

pub returns-then-not-within_limits : goal.returns-then-not-within_limits
unfolding lacks_room
returns-then-not-within_limits c = let outside = sym c.within_limits.ensures ∙ c.if-not-within_limits.true in rw outside

pub all_words-requires : goal.all_words-requires
all_words-requires c = sym c.within_limits.ensures ∙ c.if-not-within_limits.false

pub returns : goal.returns
unfolding lacks_room
returns c =
    let within = sym c.within_limits.ensures ∙ c.if-not-within_limits.false in
    rw (within, c.all_words.ensures, c.sector_words.ensures)
