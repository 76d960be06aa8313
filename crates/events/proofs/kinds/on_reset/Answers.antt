-- `on_reset` meets its contract.
-- Assumes nothing.
use Rattle.std.proofs.Common.{refl, ◌∙◌}
use Rattle.events.proofs.Done.{did_refused, did_accepted}
use Rattle.refusals.specs.declared.refusal.Refusal.TheVariants.{Malformed}
use Rattle.parts.specs.declared.kind.Kind.TheVariants.{Reset}
use Rattle.laws.specs.Pick.{pick}
use Rattle.events.proofs.kinds.on_reset.Goals as goal

pub returns-then-not-none_at_all : goal.returns-then-not-none_at_all
unfolding pick
returns-then-not-none_at_all c =
    did_refused Reset _ _ _ Malformed c.requires (rw (← c.none_at_all.ensures, c.if-not-none_at_all.true))

pub returns : goal.returns
unfolding pick
returns c =
    did_accepted Reset _ _ _ (rw (← c.none_at_all.ensures, c.if-not-none_at_all.false)) (record { answer = refl; state = c.put_moved.ensures ∙ rw (c.reset.ensures, c.drive_in-d.ensures) })
