-- `is_misopened` meets its contract.
-- Assumes nothing.
use Rattle.std.proofs.Common.{sym, ◌∙◌, eq-eqb, ne_eqb}
use Rattle.laws.specs.Pick.{pick}
use Rattle.events.specs.Unsound.{is_misopened}
use Rattle.events.proofs.Unsoundness.{write_amiss, read_amiss, data_amiss, code_amiss}
use Rattle.events.proofs.judge.is_misopened.Goals as goal

pub returns-then-control-eq0 : goal.returns-then-control-eq0
unfolding is_misopened pick
returns-then-control-eq0 c = rw (eq-eqb _ _ c.if-control-eq0.true)

pub returns-then-is_write : goal.returns-then-is_write
unfolding is_misopened pick
returns-then-is_write c =
    rw (ne_eqb _ _ c.if-control-eq0.false) (c.is_through.ensures ∙ sym (write_amiss _ _ _ (sym c.is_write.ensures ∙ c.if-is_write.true)))

pub returns-then-is_read : goal.returns-then-is_read
unfolding is_misopened pick
returns-then-is_read c =
    rw (ne_eqb _ _ c.if-control-eq0.false) (c.is_through-then-is_read.ensures ∙ sym (read_amiss _ _ _ (sym c.is_read.ensures ∙ c.if-is_read.true)))

pub returns-then-is_data : goal.returns-then-is_data
unfolding is_misopened pick
returns-then-is_data c =
    rw (ne_eqb _ _ c.if-control-eq0.false)
    (sym (data_amiss _ _ _ (sym c.is_data.ensures ∙ c.if-is_data.true) (sym c.is_write.ensures ∙ c.if-is_write.false) (sym c.is_read.ensures ∙ c.if-is_read.false)))

pub returns : goal.returns
unfolding is_misopened pick
returns c =
    rw (ne_eqb _ _ c.if-control-eq0.false, c.parameter_words.ensures) (sym (code_amiss _ _ _ (sym c.is_data.ensures ∙ c.if-is_data.false)))
