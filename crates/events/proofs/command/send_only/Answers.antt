-- `send_only` meets its contract.
-- Assumes nothing.
use Rattle.parts.specs.Tests.{transferring}
use Rattle.drive.specs.Command.{obeyed}
use Rattle.drive.specs.declared.drive.Drive.{Drive}
use Rattle.events.proofs.Asking.{closed_fit, did_closed}
use Rattle.events.proofs.command.send_only.Goals as goal

pub obey-requires : goal.obey-requires
obey-requires c =
    (closed_fit c.requires.0 c.close.ensures, c.requires.1)

pub returns : goal.returns
returns c =
    did_closed (λ (d : Drive). obeyed (transferring c.args.control 0) d c.args.port c.args.word) c.requires.0 c.close.ensures (rw c.without_parameters.ensures at c.obey.ensures)
