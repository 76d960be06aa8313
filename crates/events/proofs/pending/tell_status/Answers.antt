-- `tell_status` meets its contract.
-- Assumes nothing.
use Rattle.events.proofs.Done.{known}
use Rattle.events.proofs.Changes.{pending_at, posted}
use Rattle.events.specs.State.{pending_word}
use Rattle.drive.specs.Request.{status_read}
use Rattle.parts.specs.Pending.{nothing_pending}
use Rattle.events.proofs.pending.tell_status.Goals as goal

pub returns : goal.returns
unfolding status_read pending_word
returns c =
    record { answer = rw (c.octet0-octet0.ensures, c.pending_in-pending.ensures, pending_at _ _ c.requires.1); state = posted _ nothing_pending _ c.requires.1 c.requires.0.long (known c.requires.0) }
