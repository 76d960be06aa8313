-- `step` meets its contract.
-- Assumes nothing.
use Rattle.events.proofs.Answering.{step_told}
use Rattle.events.proofs.Steps.{refused_1, refused_8, stepped, stepped_in}
use Rattle.parts.specs.declared.kind.Kind.TheVariants.{Deselect, Reset, Select, Use}
use Rattle.parts.specs.declared.kind.Work.TheVariants.{DataControl, End, Position, ReadStatus, TakeWord, Target, WordFromHost}
use Rattle.std.proofs.Common.{sym, refl, le-ltb, lt-ltb}
use Rattle.events.proofs.step.step.Goals as goal

pub returns-then-event-gt-LAST_PORT : goal.returns-then-event-gt-LAST_PORT
returns-then-event-gt-LAST_PORT c =
    step_told c.requires.0 (refused_1 _ _ _ _ c.requires.0 (lt-ltb _ _ c.if-event-gt-LAST_PORT.true)) c.tell.ensures

pub returns-in-Select : goal.returns-in-Select
returns-in-Select c =
    step_told c.requires.0 (stepped _ _ _ _ Select _ c.requires.0 (le-ltb _ _ c.if-event-gt-LAST_PORT.false) (sym c.in-Select.ensures) c.on_select.ensures refl) c.tell-in-Select.ensures

pub returns-in-Deselect : goal.returns-in-Deselect
returns-in-Deselect c =
    step_told c.requires.0 (stepped _ _ _ _ Deselect _ c.requires.0 (le-ltb _ _ c.if-event-gt-LAST_PORT.false) (sym c.in-Deselect.ensures) c.on_deselect.ensures refl) c.tell-in-Deselect.ensures

pub returns-in-Use-DataControl : goal.returns-in-Use-DataControl
returns-in-Use-DataControl c =
    step_told c.requires.0 (stepped _ _ _ _ (Use DataControl) _ c.requires.0 (le-ltb _ _ c.if-event-gt-LAST_PORT.false) (sym (rw c.in-Use-DataControl.field-0-is at c.in-Use-DataControl.ensures)) c.on_data_control.ensures refl) c.tell-in-Use-DataControl.ensures

pub returns-in-Use-WordFromHost : goal.returns-in-Use-WordFromHost
returns-in-Use-WordFromHost c =
    step_told c.requires.0 (stepped_in _ _ _ _ (Use WordFromHost) c.requires.0 (le-ltb _ _ c.if-event-gt-LAST_PORT.false) (sym (rw c.in-Use-WordFromHost.field-0-is at c.in-Use-WordFromHost.ensures)) c.on_word_from_host.ensures) c.tell-in-Use-WordFromHost.ensures

pub returns-in-Use-TakeWord : goal.returns-in-Use-TakeWord
returns-in-Use-TakeWord c =
    step_told c.requires.0 (stepped _ _ _ _ (Use TakeWord) _ c.requires.0 (le-ltb _ _ c.if-event-gt-LAST_PORT.false) (sym (rw c.in-Use-TakeWord.field-0-is at c.in-Use-TakeWord.ensures)) c.on_take_word.ensures refl) c.tell-in-Use-TakeWord.ensures

pub returns-in-Use-End : goal.returns-in-Use-End
returns-in-Use-End c =
    step_told c.requires.0 (stepped _ _ _ _ (Use End) _ c.requires.0 (le-ltb _ _ c.if-event-gt-LAST_PORT.false) (sym (rw c.in-Use-End.field-0-is at c.in-Use-End.ensures)) c.on_end.ensures refl) c.tell-in-Use-End.ensures

pub returns-in-Use-Position : goal.returns-in-Use-Position
returns-in-Use-Position c =
    step_told c.requires.0 (stepped _ _ _ _ (Use Position) _ c.requires.0 (le-ltb _ _ c.if-event-gt-LAST_PORT.false) (sym (rw c.in-Use-Position.field-0-is at c.in-Use-Position.ensures)) c.on_position.ensures refl) c.tell-in-Use-Position.ensures

pub returns-in-Use-Target : goal.returns-in-Use-Target
returns-in-Use-Target c =
    step_told c.requires.0 (stepped _ _ _ _ (Use Target) _ c.requires.0 (le-ltb _ _ c.if-event-gt-LAST_PORT.false) (sym (rw c.in-Use-Target.field-0-is at c.in-Use-Target.ensures)) c.on_target.ensures refl) c.tell-in-Use-Target.ensures

pub returns-in-Use-ReadStatus : goal.returns-in-Use-ReadStatus
returns-in-Use-ReadStatus c =
    step_told c.requires.0 (stepped _ _ _ _ (Use ReadStatus) _ c.requires.0 (le-ltb _ _ c.if-event-gt-LAST_PORT.false) (sym (rw c.in-Use-ReadStatus.field-0-is at c.in-Use-ReadStatus.ensures)) c.on_read_status.ensures refl) c.tell-in-Use-ReadStatus.ensures

pub returns-in-Reset : goal.returns-in-Reset
returns-in-Reset c =
    step_told c.requires.0 (stepped _ _ _ _ Reset _ c.requires.0 (le-ltb _ _ c.if-event-gt-LAST_PORT.false) (sym c.in-Reset.ensures) c.on_reset.ensures refl) c.tell-in-Reset.ensures

pub returns-in-Unknown : goal.returns-in-Unknown
returns-in-Unknown c =
    step_told c.requires.0 (refused_8 _ _ _ _ c.requires.0 (le-ltb _ _ c.if-event-gt-LAST_PORT.false) (sym c.in-Unknown.ensures)) c.tell-in-Unknown.ensures
