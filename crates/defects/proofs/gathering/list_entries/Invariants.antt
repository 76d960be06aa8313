-- `defects::gathering::list_entries` meets its contract: the defects listed so far, before those of the entries left, are all of them.
-- Assumes nothing.
use Rattle.defects.proofs.Listing.{Listing}
use Rattle.defects.proofs.gathering.list_entries.Given as goal

abbrev pub invariant-loop-i : goal.invariant-loop-i
invariant-loop-i l = Listing l.field l.count l.initial.defects l.defects l.i
