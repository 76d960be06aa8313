-- `defects::judging::judge_crc` meets its contract: the CRC at the end is compared with that of what is before it.
-- Assumes nothing.
use mathlib.Core.Path.{sym, ◌∙◌}
use lib.Seq.{length-take-le}
use borrow.Author.Rules.{rules}
use Rattle.defects.proofs.judging.judge_crc.Goals as goal

pub slice_bounds-crc-end : goal.slice_bounds-crc-end
slice_bounds-crc-end c = sym (length-take-le _ _ (search rules))

pub returns : goal.returns
returns c = c.refuse_if.ensures ∙ rw (c.word_at-told.ensures, c.crc.ensures)
