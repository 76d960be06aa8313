-- `Follower::step_known` meets its contract.
-- Assumes nothing.
use Rattle.std.proofs.Common.{sym, ◌∙◌, rules}
use borrow.Author.Tests.{lt-ltb, le-ltb}
use Rattle.laws.specs.Pick.{pick}
use Rattle.lines.proofs.Step.{unreached_refused, step_reached, stepped}
use Rattle.lines.proofs.Reached.{reached_below_32}
use Rattle.lines.proofs.follower.Follower.step_known.Goals as goal

pub returns-then-not-reached : goal.returns-then-not-reached
returns-then-not-reached c = stepped (c.refused.ensures ∙ sym (unreached_refused _ _ (sym c.requires ∙ c.if-not-reached.true)))

pub returns-then-setting-gt-LAST_SETTING : goal.returns-then-setting-gt-LAST_SETTING
unfolding pick
returns-then-setting-gt-LAST_SETTING c =
    let reached = sym c.requires ∙ c.if-not-reached.false in
    stepped (c.refused-then-setting-gt-LAST_SETTING.ensures ∙ sym (step_reached _ _ reached ∙ rw (lt-ltb _ _ c.if-setting-gt-LAST_SETTING.true)))

pub returns-then-self : goal.returns-then-self
unfolding pick
returns-then-self c =
    let reached = sym c.requires ∙ c.if-not-reached.false in
    stepped (c.while_lost.ensures ∙ sym (step_reached _ _ reached ∙ rw (le-ltb _ _ c.if-setting-gt-LAST_SETTING.false, c.if-self.true)))

pub moved-requires : goal.moved-requires
moved-requires c = (reached_below_32 _ (sym c.requires ∙ c.if-not-reached.false), search rules)

pub returns : goal.returns
unfolding pick
returns c =
    let reached = sym c.requires ∙ c.if-not-reached.false in
    stepped (c.moved.ensures ∙ sym (step_reached _ _ reached ∙ rw (le-ltb _ _ c.if-setting-gt-LAST_SETTING.false, c.if-self.false)))
