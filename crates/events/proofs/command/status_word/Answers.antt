-- `status_word` meets its contract.
-- Assumes nothing.
use Rattle.std.proofs.Common.{◌≡◌, ◌*◌, arith}
use Rattle.events.proofs.Changes.{pending_at}
use Rattle.events.proofs.Exchanges.{zeros_later}
use Rattle.events.proofs.command.status_word.Goals as goal

pub returns-in-0 : goal.returns-in-0
returns-in-0 c =
    rw (c.in-0.is, c.word.ensures, c.octet0.ensures, c.pending_in-pending.ensures, pending_at _ _ c.requires.1)

pub returns-in-1 : goal.returns-in-1
returns-in-1 c =
    let second : c.word-in-1.result ≡ c.pending_in-pending.result.octet2 * 256 = omega (arith, c.word-in-1.ensures) in
    rw (c.in-1.is, second, c.pending_in-pending.ensures, pending_at _ _ c.requires.1)

pub returns-in_default : goal.returns-in_default
returns-in_default c =
    zeros_later _ _ c.in_default.in_default-own.rest.0.1 c.in_default.in_default-own.rest.1 c.requires.2
