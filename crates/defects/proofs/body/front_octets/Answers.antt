-- `defects::body::front_octets` meets its contract: the octets of its numbers.
-- Assumes nothing.
use mathlib.Core.Path.{◌∙◌}
use Rattle.defects.specs.EncodeSteps.{octets_in_front}
use Rattle.defects.proofs.HighOctets.{word_octets_lem, long_octets}
use Rattle.defects.proofs.body.front_octets.Goals as goal

pub returns : goal.returns
unfolding octets_in_front
returns c =
    let front = c.args.front in
    rw (
      c.to_be_bytes.ensures ∙ word_octets_lem front.count,
      c.to_be_bytes-2.ensures ∙ word_octets_lem front.sets,
      c.to_be_bytes-3.ensures ∙ word_octets_lem front.set,
      c.to_be_bytes-4.ensures ∙ long_octets front.cylinder,
      c.to_be_bytes-5.ensures ∙ word_octets_lem front.head,
    )
