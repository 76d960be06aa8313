-- `fault` meets its contract.
-- Assumes nothing.
use Rattle.events.proofs.Done.{known}
use Rattle.events.proofs.Changes.{pending_at, posted}
use Rattle.drive.specs.Request.{bad_request}
use Rattle.std.proofs.Common.{refl}
use Rattle.events.proofs.pending.fault.Goals as goal

pub returns : goal.returns
unfolding bad_request
returns c =
    record { answer = refl; state = rw (c.pending_word-word.ensures, c.faulted.ensures, c.pending_in-pending.ensures, ← (pending_at _ _ c.requires.1)) (posted _ _ _ c.requires.1 c.requires.0.long (known c.requires.0)) }
