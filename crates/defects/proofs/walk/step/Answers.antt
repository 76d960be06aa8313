-- `defects::walk::step` meets its contract: each of its three ways is one arm of the definition.
-- Assumes nothing.
use borrow.Author.Tests.{eq-eqb, ne_eqb}
use Rattle.laws.specs.Pick.{pick}
use Rattle.defects.specs.Walk.{after}
use Rattle.defects.proofs.Offences.{none_left, passed_on}
use Rattle.defects.proofs.walk.step.Goals as goal

pub returns-then-field : goal.returns-then-field
unfolding pick after
returns-then-field c =
    let ignored = eq-eqb _ _ c.if-field.true in
    record { offence = rw ignored none_left; next = rw ignored }

pub returns-in_err-judge_copy : goal.returns-in_err-judge_copy
unfolding pick
returns-in_err-judge_copy c =
    let judged = ne_eqb _ _ c.if-field.false in
    let copy = ne_eqb _ _ c.if-walk-ne0.true in
    rw (passed_on c.from_residual.ensures) (record { offence = rw (judged, copy) c.in_err-judge_copy.ensures; next = tt })

pub returns-then-walk-ne0 : goal.returns-then-walk-ne0
unfolding pick after
returns-then-walk-ne0 c =
    let judged = ne_eqb _ _ c.if-field.false in
    let copy = ne_eqb _ _ c.if-walk-ne0.true in
    record { offence = rw (judged, copy) c.in_ok-judge_copy.ensures; next = rw (judged, copy, c.after_copy.ensures) }

pub returns-in_err-above : goal.returns-in_err-above
unfolding pick
returns-in_err-above c =
    let judged = ne_eqb _ _ c.if-field.false in
    let copy = eq-eqb _ _ c.if-walk-ne0.false in
    rw (passed_on c.from_residual-in_err-above.ensures) (record { offence = rw (judged, copy) c.in_err-above.ensures.offence; next = tt })

pub returns : goal.returns
unfolding pick after
returns c =
    let judged = ne_eqb _ _ c.if-field.false in
    let copy = eq-eqb _ _ c.if-walk-ne0.false in
    record { offence = rw (judged, copy) c.in_ok-above.ensures.offence; next = rw (judged, copy, c.after_original.ensures, c.front_of-front.ensures, c.in_ok-above.ensures.next) }
