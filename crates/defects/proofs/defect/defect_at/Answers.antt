-- `defects::defect::defect_at` meets its contract: its four numbers one by one.
-- Assumes nothing.
use Rattle.defects.proofs.defect.defect_at.Goals as goal

pub returns : goal.returns
returns c =
    λ i. record {
      cylinder = c.long_at.ensures i;
      head = c.word_at.ensures i;
      offset = c.long_at-2.ensures i;
      length = c.word_at-2.ensures i;
    }
