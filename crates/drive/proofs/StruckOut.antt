-- The events that were not refused, run alone: each refused one changed nothing, so that it can be left out.
-- Assumes nothing.
use mathlib.Core.Path.{◌≡◌, refl, sym, ap, ◌∙◌}
use mathlib.Core.List.{List, [], ◌∷◌}
use Rattle.laws.specs.Pick.{pick}
use Rattle.laws.proofs.Pick.{cases, pick_t, pick_f}
use Rattle.drive.specs.Run.{Machine, answer_to, after, answers, final}
use Rattle.drive.specs.Accepted.{is_refused, accepted}
use Rattle.drive.specs.Demand3.{StruckOut}
use Rattle.parts.specs.declared.event.Event.{Event}
use Rattle.drive.proofs.Laws.{refused_changes_nothing}

same_end_lem : (m : Machine) (events : List Event) → final m (accepted events (answers m events)) ≡ final m events
unfolding accepted answers final
same_end_lem m [] = refl
same_end_lem m (e ∷ events) =
    let later = same_end_lem (after m e) events in
    cases (λ left. final m left ≡ final (after m e) events) (is_refused (answer_to m e))
    (λ refused. ap (λ from. final from (accepted events (answers (after m e) events))) (sym (refused_changes_nothing m e refused)) ∙ later)
    (λ done. later)

same_answers_lem : (m : Machine) (events : List Event) → answers m (accepted events (answers m events)) ≡ accepted (answers m events) (answers m events)
unfolding accepted answers
same_answers_lem m [] = refl
same_answers_lem m (e ∷ events) =
    let later = same_answers_lem (after m e) events in
    let told = answers (after m e) events in
    let all = pick (is_refused (answer_to m e)) (accepted told told) (answer_to m e ∷ accepted told told) in
    cases (λ left. answers m left ≡ all) (is_refused (answer_to m e))
    (λ refused. pick_t _ _ _ _ _ refused (ap (λ from. answers from (accepted events told)) (sym (refused_changes_nothing m e refused)) ∙ later))
    (λ done. pick_f _ _ _ _ _ done (ap (λ rest. answer_to m e ∷ rest) later))

pub struck_out : (m : Machine) (events : List Event) → StruckOut m events (answers m events) (final m events)
struck_out m events = record { same_answers = same_answers_lem m events; same_end = same_end_lem m events }
