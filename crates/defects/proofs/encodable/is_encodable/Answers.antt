-- `defects::encodable::is_encodable` meets its contract.
-- Assumes nothing.
use Rattle.defects.specs.Encoding.{is_encodable}
use Rattle.defects.proofs.Listed.{length_listed}
use Rattle.defects.proofs.encodable.is_encodable.Goals as goal

pub returns : goal.returns
unfolding is_encodable
returns c = rw (c.are_listable.ensures, c.has_fields.ensures, length_listed)
