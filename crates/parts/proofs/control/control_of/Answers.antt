-- `control_of` meets its contract: the ranges are tested in the order of the codes.
-- Assumes nothing.
use Rattle.parts.specs.Control.{control_of}
use Rattle.laws.proofs.Pick.{steps}
use Rattle.laws.specs.Pick.{pick}
use Rattle.parts.proofs.OnPaper.{control_said}
use Rattle.parts.proofs.control.control_of.Goals as goal

pub returns-in-144 : goal.returns-in-144
unfolding control_of pick
returns-in-144 c = control_said (rw c.in-144.is)

pub returns-in-208 : goal.returns-in-208
unfolding control_of pick
returns-in-208 c = control_said (rw c.in-208.is)

pub returns-in-0-to-127 : goal.returns-in-0-to-127
unfolding control_of pick
returns-in-0-to-127 c = control_said (search steps depth 20 fits 4000)

pub returns-in-192-to-207 : goal.returns-in-192-to-207
unfolding control_of pick
returns-in-192-to-207 c = control_said (search steps depth 20 fits 4000)

pub returns-in_default : goal.returns-in_default
unfolding control_of pick
returns-in_default c = control_said (search steps depth 20 fits 4000)

pub returns-in_default-2 : goal.returns-in_default-2
unfolding control_of pick
returns-in_default-2 c = control_said (search steps depth 20 fits 4000)

pub returns-in-132-to-143 : goal.returns-in-132-to-143
unfolding control_of pick
returns-in-132-to-143 c = control_said (search steps depth 20 fits 4000)

pub returns-in-132-to-143-2 : goal.returns-in-132-to-143-2
unfolding control_of pick
returns-in-132-to-143-2 c = control_said (search steps depth 20 fits 4000)

pub returns-in-128-to-131 : goal.returns-in-128-to-131
unfolding control_of pick
returns-in-128-to-131 c = control_said (search steps depth 20 fits 4000)

pub returns-in-128-to-131-2 : goal.returns-in-128-to-131-2
unfolding control_of pick
returns-in-128-to-131-2 c = control_said (search steps depth 20 fits 4000)
