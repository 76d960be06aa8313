-- The measure of either turn is what remains of the trace: each call takes a setting of it.
use Rattle.std.proofs.Common.{length}
use Rattle.lines.proofs.plain.+controllers_turn_drives_turn.Given as goal

abbrev pub decreases-controllers_turn : goal.decreases-controllers_turn
decreases-controllers_turn l = length l.rest.now

abbrev pub decreases-drives_turn : goal.decreases-drives_turn
decreases-drives_turn l = length l.rest.now
