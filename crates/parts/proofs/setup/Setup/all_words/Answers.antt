-- `all_words` meets its contract: the products fit.
-- Assumes nothing.
use Rattle.parts.specs.Setup.{all_words}
use Rattle.parts.proofs.Bounds.{few_words, limits}
use native.Mathlib.Omega.{arith}
use Rattle.parts.proofs.setup.Setup.all_words.Goals as goal

pub overflow_mul-result : goal.overflow_mul-result
overflow_mul-result c = let f = few_words _ (limits _ c.requires) in omega arith

pub overflow_mul-result-2 : goal.overflow_mul-result-2
overflow_mul-result-2 c = let f = few_words _ (limits _ c.requires) in omega arith

pub overflow_mul-result-3 : goal.overflow_mul-result-3
overflow_mul-result-3 c = let f = few_words _ (limits _ c.requires) in rw c.sector_words.ensures (omega arith)

pub returns : goal.returns
unfolding all_words
returns c = cc
