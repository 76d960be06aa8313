-- `data_words` meets its contract.
-- Assumes nothing.
use Rattle.parts.specs.Control.{data_words}
use Rattle.parts.proofs.setup.Setup.data_words.Goals as goal

pub returns : goal.returns
unfolding data_words
returns c = cc
