-- `read_words` meets its contract.
-- Assumes nothing.
use Rattle.std.proofs.Common.{arith}
use Rattle.parts.specs.Control.{data_words}
use Rattle.parts.proofs.Bounds.{read_passes}
use Rattle.events.specs.State.{drive_in}
use Rattle.events.proofs.coming.read_words.Goals as goal

pub returns : goal.returns
unfolding data_words drive_in
returns c =
    rw (c.words_at.ensures.0, c.moves_header.ensures, ← (read_passes _ c.requires.1), c.field_words.ensures.0) (omega arith)
