-- `word_offset` meets its contract: by the part that word k is of.
-- Assumes nothing.
use Rattle.drive.proofs.Reading.{at_fields, at_header}
use Rattle.parts.specs.Control.{part}
use Rattle.std.proofs.Common.{Bool, sym, ap, ◌∙◌}
use Rattle.parts.proofs.Bounds.{read_passes}
use Rattle.events.proofs.transfer.word_offset.Goals as goal

pub returns-then-k-header : goal.returns-then-k-header
returns-then-k-header c = at_header _ _ _ (rw (← (c.part_of-header.ensures.0 ∙ ap (λ (t : Bool). part t c.args.setup.header) (c.moves_header.ensures ∙ sym (read_passes _ c.requires.1)))) c.if-k-header.true)

pub returns : goal.returns
returns c = rw ((c.part_of-header.ensures.0 ∙ ap (λ (t : Bool). part t c.args.setup.header) (c.moves_header.ensures ∙ sym (read_passes _ c.requires.1))), (c.part_of-field1.ensures.0 ∙ ap (λ (t : Bool). part t c.args.setup.field1) c.names_field1.ensures)) (at_fields _ _ _ (rw (← (c.part_of-header.ensures.0 ∙ ap (λ (t : Bool). part t c.args.setup.header) (c.moves_header.ensures ∙ sym (read_passes _ c.requires.1)))) c.if-k-header.false) c.requires.0)
