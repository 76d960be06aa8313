-- `tick_at` meets its contract.
-- Assumes nothing.
use Rattle.std.proofs.Common.{sym, ◌∙◌}
use Rattle.events.proofs.Parts.{tick_read}
use Rattle.events.proofs.part.tick_at.Goals as goal

pub returns : goal.returns
returns c =
    c.word.ensures ∙ sym (tick_read _ _ c.requires)
