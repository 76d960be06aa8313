-- `defects::encodable::is_listable` meets its contract.
-- Assumes nothing.
use Rattle.defects.specs.Encoding.{is_listable}
use Rattle.defects.proofs.encodable.is_listable.Goals as goal

pub returns : goal.returns
unfolding is_listable
returns c = cc
