-- `read_stretch` meets its contract: the turn that comes first reads as the steps do.
-- Assumes nothing.
use mathlib.Core.Path.{sym, ◌∙◌}
use Rattle.lines.proofs.Turns.{drives_first, controllers_first}
use Rattle.lines.proofs.plain.read_stretch.Goals as goal

pub returns-then-is_drives : goal.returns-then-is_drives
returns-then-is_drives c =
    let drives = sym c.is_drives.ensures ∙ c.if-is_drives.true in
    rw (drives_first c.args.follower c.args.stretch.now c.requires.0 drives) at c.drives_turn.ensures

pub returns : goal.returns
returns c =
    let controllers = sym c.is_drives.ensures ∙ c.if-is_drives.false in
    rw (controllers_first c.args.follower c.args.stretch.now c.requires.0 controllers) at c.controllers_turn.ensures
