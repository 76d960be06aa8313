-- `step_plainly` meets its contract: the side whose move it is, or neither, takes the setting as the step does.
-- Assumes nothing.
use mathlib.Core.Path.{sym, ap, ◌∙◌}
use mathlib.Core.Bool.{not}
use mathlib.Core.List.{[], ◌∷◌}
use Rattle.laws.proofs.Pick.{pick_t, pick_f}
use Rattle.lines.specs.Follower.{told}
use Rattle.lines.specs.Turns.{takes}
use Rattle.lines.specs.declared.follower.Answer.{Answer}
use Rattle.lines.proofs.Step.{unreached_refused, stepped}
use Rattle.lines.proofs.Turns.{controller_takes_lem, drive_takes_lem, not_the_controllers}
use Rattle.lines.proofs.plain.step_plainly.Goals as goal

pub returns-then-not-is_reached : goal.returns-then-not-is_reached
returns-then-not-is_reached c =
    let unreached = sym c.is_reached.ensures.answer ∙ c.if-not-is_reached.true in
    stepped (c.refused.ensures ∙ sym (unreached_refused _ _ unreached))

pub returns-then-is_drives : goal.returns-then-is_drives
unfolding takes
returns-then-is_drives c =
    let drives = sym c.is_drives.ensures ∙ c.if-is_drives.true in
    let reached = ap not (sym c.is_reached.ensures.answer ∙ c.if-not-is_reached.false) in
    let said = pick_f _ _ _ _ _ reached (pick_t _ _ _ _ _ drives (c.told.ensures ∙ ap (told Answer.Drives) c.at.ensures)) in
    stepped (said ∙ drive_takes_lem _ _ (not_the_controllers c.args.follower (c.args.setting ∷ []) drives))

pub returns-then-is_controllers : goal.returns-then-is_controllers
unfolding takes
returns-then-is_controllers c =
    let controllers = sym c.is_controllers.ensures ∙ c.if-is_controllers.true in
    let reached = ap not (sym c.is_reached.ensures.answer ∙ c.if-not-is_reached.false) in
    let taken = c.told-then-is_controllers.ensures ∙ ap (told Answer.Controllers) c.at-then-is_controllers.ensures in
    let said = pick_f _ _ _ _ _ reached (pick_t _ _ _ _ _ controllers taken) in
    stepped (said ∙ controller_takes_lem _ _ (sym c.is_drives.ensures ∙ c.if-is_drives.false))

pub returns : goal.returns
unfolding takes
returns c =
    let neither = sym c.is_controllers.ensures ∙ c.if-is_controllers.false in
    let reached = ap not (sym c.is_reached.ensures.answer ∙ c.if-not-is_reached.false) in
    let said = pick_f _ _ _ _ _ reached (pick_f _ _ _ _ _ neither c.nobodys_move.ensures) in
    stepped (said ∙ controller_takes_lem _ _ (sym c.is_drives.ensures ∙ c.if-is_drives.false))
