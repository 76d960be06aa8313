-- `listing::say_each` is safe: each entry has twelve octets.
-- Assumes nothing.
use native.Mathlib.Omega.{arith}
use Rattle.list_defects.proofs.Entry.{never_refused}
use Rattle.list_defects.proofs.listing.say_each.Goals as goal

pub unwrap-requires : goal.unwrap-requires
unwrap-requires g c = rw (never_refused (omega (arith, c.loop-i-test.true)) c.decode_defect.ensures)
