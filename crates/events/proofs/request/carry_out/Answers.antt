-- `carry_out` meets its contract.
-- Assumes nothing.
use Rattle.std.proofs.Common.{◌≡◌, ℕ, ◌<◌, true, false, ◌||◌, ◌⊎◌, List, sym, refl, ◌∙◌, inl, inr, arith}
use denote.Enum.Declared.{tag_of}
use Rattle.parts.specs.contracts.control.Control.{the_type}
use Rattle.parts.proofs.ByBits.{write_is_data, read_is_data, command_low, response_low}
use Rattle.parts.specs.Control.{control_of, takes_words, gives_words, is_data}
use Rattle.parts.specs.declared.control.Control.{Control}
use Rattle.parts.specs.declared.control.Control.TheVariants.{Write, Read, Command, Response, StepHead, Reserved, Unsupported, Invalid}
use Rattle.drive.specs.Request.{controlled, opened, opening}
use Rattle.drive.specs.declared.answer.Answer.{Answer}
use Rattle.events.specs.State.{drive_in}
use Rattle.events.specs.Fit.{Did}
use Rattle.events.proofs.Asking.{did_controlled}
use Rattle.events.proofs.request.carry_out.Goals as goal

-- the arms of two kinds, by the tag of the kind that was told
low : (tag : ℕ) → (tag ≡ 0) ⊎ (tag ≡ 1) → tag < 2
low tag (inl e) = omega arith
low tag (inr e) = omega arith

next : (tag : ℕ) → (tag ≡ 2) ⊎ (tag ≡ 3) → (1 < tag) × (tag < 4)
next tag (inl e) = (omega arith, omega arith)
next tag (inr e) = (omega arith, omega arith)

did_opening : (state : List ℕ) (port control : ℕ) (kind : Control) {answer : Answer} {state' : List ℕ} → tag_of the_type kind < 2
    → kind ≡ control_of control → Did state (opening (drive_in state) port control) answer state' → Did state (controlled (control_of control) (drive_in state) port control) answer state'
did_opening state port control Write h e d = did_controlled state port control Write e d
did_opening state port control Read h e d = did_controlled state port control Read e d
did_opening state port control Command h e d = absurd (omega (arith, h))
did_opening state port control Response h e d = absurd (omega (arith, h))
did_opening state port control StepHead h e d = absurd (omega (arith, h))
did_opening state port control Reserved h e d = absurd (omega (arith, h))
did_opening state port control Unsupported h e d = absurd (omega (arith, h))
did_opening state port control Invalid h e d = absurd (omega (arith, h))

did_opened : (state : List ℕ) (port control : ℕ) (kind : Control) {answer : Answer} {state' : List ℕ} → (1 < tag_of the_type kind) × (tag_of the_type kind < 4)
    → kind ≡ control_of control → Did state (opened (drive_in state) control) answer state' → Did state (controlled (control_of control) (drive_in state) port control) answer state'
did_opened state port control Command h e d = did_controlled state port control Command e d
did_opened state port control Response h e d = did_controlled state port control Response e d
did_opened state port control Write h e d = absurd (omega (arith, h.0))
did_opened state port control Read h e d = absurd (omega (arith, h.0))
did_opened state port control StepHead h e d = absurd (omega (arith, h.1))
did_opened state port control Reserved h e d = absurd (omega (arith, h.1))
did_opened state port control Unsupported h e d = absurd (omega (arith, h.1))
did_opened state port control Invalid h e d = absurd (omega (arith, h.1))

-- and what the control then is
data_kind : (c : ℕ) (kind : Control) → tag_of the_type kind < 2 → kind ≡ control_of c → is_data c ≡ true
data_kind c Write h e = write_is_data c (rw (← e))
data_kind c Read h e = read_is_data c (rw (← e))
data_kind c Command h e = absurd (omega (arith, h))
data_kind c Response h e = absurd (omega (arith, h))
data_kind c StepHead h e = absurd (omega (arith, h))
data_kind c Reserved h e = absurd (omega (arith, h))
data_kind c Unsupported h e = absurd (omega (arith, h))
data_kind c Invalid h e = absurd (omega (arith, h))

code_kind : (c : ℕ) (kind : Control) → (1 < tag_of the_type kind) × (tag_of the_type kind < 4) → kind ≡ control_of c
    → (is_data c ≡ false) × ((takes_words (control_of c) || gives_words (control_of c)) ≡ true)
code_kind c Command h e = (command_low c (sym e), rw (← e))
code_kind c Response h e = (response_low c (sym e), rw (← e))
code_kind c Write h e = absurd (omega (arith, h.0))
code_kind c Read h e = absurd (omega (arith, h.0))
code_kind c StepHead h e = absurd (omega (arith, h.1))
code_kind c Reserved h e = absurd (omega (arith, h.1))
code_kind c Unsupported h e = absurd (omega (arith, h.1))
code_kind c Invalid h e = absurd (omega (arith, h.1))

pub open_there-requires : goal.open_there-requires
open_there-requires c =
    (c.requires.0, c.requires.1, data_kind c.args.control c.control_of-kind.result (low _ c.in-Write.in-Write-own.keys1) c.control_of-kind.ensures.answer)

pub open_code-requires : goal.open_code-requires
open_code-requires c =
    let told = code_kind c.args.control c.control_of-kind.result (next _ c.in-Command.in-Command-own.keys2) c.control_of-kind.ensures.answer in
    (c.requires.0, told.0, told.1)

pub returns-in-Write : goal.returns-in-Write
returns-in-Write c =
    did_opening _ _ _ c.control_of-kind.result (low _ c.in-Write.in-Write-own.keys1) c.control_of-kind.ensures.answer c.open_there.ensures

pub returns-in-Command : goal.returns-in-Command
returns-in-Command c =
    did_opened _ _ _ c.control_of-kind.result (next _ c.in-Command.in-Command-own.keys2) c.control_of-kind.ensures.answer c.open_code.ensures

pub returns-in-StepHead : goal.returns-in-StepHead
returns-in-StepHead c =
    did_controlled _ _ _ StepHead (sym c.in-StepHead.is ∙ c.control_of-kind.ensures.answer) (record { answer = refl; state = c.step_head.ensures })

pub returns-in-Reserved : goal.returns-in-Reserved
returns-in-Reserved c =
    did_controlled _ _ _ Reserved (sym c.in-Reserved.is ∙ c.control_of-kind.ensures.answer) c.fault.ensures

pub returns-in-Unsupported : goal.returns-in-Unsupported
returns-in-Unsupported c =
    did_controlled _ _ _ Unsupported (sym c.in-Unsupported.is ∙ c.control_of-kind.ensures.answer) c.fault-in-Unsupported.ensures

pub returns-in-Invalid : goal.returns-in-Invalid
returns-in-Invalid c =
    did_controlled _ _ _ Invalid (sym c.in-Invalid.is ∙ c.control_of-kind.ensures.answer) c.fault-in-Invalid.ensures
