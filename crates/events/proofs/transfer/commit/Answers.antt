-- `commit` meets its contract.
-- Assumes nothing.
use Rattle.std.proofs.Common.{Bool, ap, ◌∙◌}
use Rattle.parts.specs.Control.{part}
use Rattle.events.proofs.Committing.{committed_so}
use Rattle.events.proofs.transfer.commit.Goals as goal

pub returns : goal.returns
returns c =
    let a = c.args in
    c.copy.ensures
    ∙ committed_so a.setup a.control a.start a.sectors.now a.staging.now _ _ _
    (c.part_of.ensures.0 ∙ ap (λ (t : Bool). part t a.setup.header) c.moves_header.ensures)
    (c.part_of-field1.ensures.0 ∙ ap (λ (t : Bool). part t a.setup.field1) c.names_field1.ensures)
    (c.part_of-field2.ensures.0 ∙ ap (λ (t : Bool). part t a.setup.field2) c.names_field2.ensures) c.requires
