-- `field_words` meets its contract.
-- Assumes nothing.
use Rattle.std.proofs.Common.{arith}
use Rattle.events.proofs.coming.field_words.Goals as goal

pub returns : goal.returns
returns c = (
  rw (c.words_at.ensures.0, c.words_at-2.ensures.0, c.names_field1.ensures, c.names_field2.ensures),
  omega (arith, c.words_at.ensures.1, c.words_at-2.ensures.1),
)
