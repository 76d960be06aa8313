-- `status::response::response_of` meets its contract: each mask is one bit.
-- Assumes nothing.
use Rattle.status.specs.Response.{response_of}
use Rattle.status.proofs.Bits.{mask_bit}
use mathlib.Core.Path.{◌∙◌}
use Rattle.status.proofs.response.response_of.Goals as goal

pub returns : goal.returns
unfolding response_of
returns c =
    let a = c.args in
    λ i. record {
      reset_complete = (c.has.ensures ∙ mask_bit 7 a.unsolicited) i;
      alternate_port_priority_select = (c.has-2.ensures ∙ mask_bit 6 a.unsolicited) i;
      invalid_bus_control = (c.has-3.ensures ∙ mask_bit 7 a.bus_control) i;
      invalid_parameter = (c.has-4.ensures ∙ mask_bit 6 a.bus_control) i;
      unsupported_bus_control = (c.has-5.ensures ∙ mask_bit 5 a.bus_control) i;
      bus_control_context = (c.has-6.ensures ∙ mask_bit 4 a.bus_control) i;
    }
