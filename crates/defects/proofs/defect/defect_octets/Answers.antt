-- `defects::defect::defect_octets` meets its contract: the octets of its four numbers.
-- Assumes nothing.
use mathlib.Core.Path.{◌∙◌}
use Rattle.defects.specs.Defect.{defect_octets}
use Rattle.defects.proofs.HighOctets.{word_octets_lem, long_octets}
use Rattle.defects.proofs.defect.defect_octets.Goals as goal

pub returns : goal.returns
unfolding defect_octets
returns c =
    let d = c.args.defect in
    rw (
      c.to_be_bytes.ensures ∙ long_octets d.cylinder,
      c.to_be_bytes-2.ensures ∙ word_octets_lem d.head,
      c.to_be_bytes-3.ensures ∙ long_octets d.offset,
      c.to_be_bytes-4.ensures ∙ word_octets_lem d.length,
    )
