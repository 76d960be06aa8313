-- `holds_against` meets its contract.
-- Assumes nothing.
use Rattle.parts.proofs.holding.holds_against.Goals as goal

pub returns-in-Strong : goal.returns-in-Strong
returns-in-Strong c = rw c.in-Strong.is

pub returns-in-Plain : goal.returns-in-Plain
returns-in-Plain c = rw c.in-Plain.is (cc)

pub returns-in-None : goal.returns-in-None
returns-in-None c = rw c.in-None.is (cc)
