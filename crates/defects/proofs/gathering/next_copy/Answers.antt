-- `defects::gathering::next_copy` meets its contract.
-- Assumes nothing.
use Rattle.laws.proofs.Pick.{steps}
use Rattle.defects.proofs.gathering.next_copy.Goals as goal

pub returns-then-copy-eq-LAST_COPY : goal.returns-then-copy-eq-LAST_COPY
returns-then-copy-eq-LAST_COPY c = search steps

pub returns-else-copy-eq-LAST_COPY : goal.returns-else-copy-eq-LAST_COPY
returns-else-copy-eq-LAST_COPY c = search steps
