-- `pantoglide::defect_calls::pg_encode_defect` meets its contract: the 12 octets, or the refusal.
-- Assumes nothing.
use Rattle.pantoglide.proofs.Defects.{defect_made}
use Rattle.pantoglide.proofs.defect_calls.pg_encode_defect.Goals as goal

pub returns : goal.returns
returns c = defect_made c.encode_defect.ensures c.told.ensures
