-- "Status", kinds 3, 7, 8 and 9: a control, a position, a target, the status response.
use Rattle.std.specs.Prelude.{ℕ, eqb}
use Rattle.laws.specs.Pick.{pick}
use Rattle.status.specs.declared.drive_status.DriveStatus.TheVariants.{Normal, OperationException, UnsolicitedException}
use Rattle.parts.specs.Setup.{is_place, is_target, no_target}
use Rattle.parts.specs.Command.{read_status}
use Rattle.parts.specs.Control.{control_of, is_at_target, words_to_come}
use Rattle.parts.specs.Pending.{invalid_bus_control, invalid_parameter, unsupported_bus_control, bus_control_context, pending_of, nothing_pending, faulted, octet0}
use Rattle.drive.specs.State.{with_place, with_target, with_transfer, pending_on, posted_on, told}
use Rattle.parts.specs.Tests.{transferring}
use Rattle.drive.specs.Drive.{head_stepped, at_its_target, ended}
use Rattle.parts.specs.declared.setup.Place.{Place}
use Rattle.parts.specs.declared.control.Control.{Control}
use Rattle.parts.specs.declared.control.Control.TheVariants.{Write, Read, Command, Response, StepHead, Reserved, Unsupported, Invalid}
use Rattle.drive.specs.declared.drive.Drive.{Drive}
use Rattle.drive.specs.declared.answer.Outcome.{Outcome}
use Rattle.drive.specs.declared.answer.Answer.TheVariants.{Status, Opened}
use Rattle.drive.specs.declared.answer.Answer.TheVariants as answer

-- ---- kinds 3, 7 and 8

-- "a bad request gives 8 and sets a bit in octet 2"
unfoldable pub bad_request : Drive → ℕ → ℕ → Outcome
bad_request d port bit = told (Status OperationException) (posted_on d port (faulted (pending_on d port) bit))

-- M-102: "first clears that port's octet 2". 004: "If the captured status is ignored it will be cleared upon receipt of the next bus control."
unfoldable pub octet2_cleared : Drive → ℕ → Drive
octet2_cleared d port = posted_on d port (pending_of (pending_on d port).octet1 0)

-- "in order: any pending bit in response octet 1 gives C and changes nothing; then" octet 2 is cleared, and the request is judged by the drive that this
-- leaves. So if it is bad, its own bit is the only one.
abbrev pub taken_up : Drive → ℕ → (Drive → Outcome) → Outcome
taken_up d port request = pick (eqb (pending_on d port).octet1 0) (request (octet2_cleared d port)) (told (Status UnsolicitedException) d)

-- "The answer that opens a transfer tells the number of words to come and the place. No words to come: it ends at once, with status 0 alone."
unfoldable pub opened : Drive → ℕ → Outcome
opened d c =
    pick (eqb (words_to_come d.setup c) 0) (told (Status Normal) (ended d))
    (told (Opened (words_to_come d.setup c) d.place) (with_transfer d (transferring c 0)))

-- ""At target" with FFFF: bit 4."
unfoldable pub opening : Drive → ℕ → ℕ → Outcome
opening d port c = pick (is_at_target c) (pick (eqb d.target no_target) (bad_request d port bus_control_context) (opened (at_its_target d) c)) (opened d c)

-- "D0 and controls outside 80–9F and C0–DF: bit 7." "80–83 and 91–93: bit 5." "The codes come by kind 3". "a finished transfer, End and Step Head give 0".
abbrev pub controlled : Control → Drive → ℕ → ℕ → Outcome
controlled Write d port c = opening d port c
controlled Read d port c = opening d port c
controlled Command d port c = opened d c
controlled Response d port c = opened d c
controlled StepHead d port c = told (Status Normal) (head_stepped d)
controlled Reserved d port c = bad_request d port invalid_bus_control
controlled Unsupported d port c = bad_request d port unsupported_bus_control
controlled Invalid d port c = bad_request d port invalid_bus_control

-- "A place or target outside the drive: bit 6. .. Otherwise kinds 7 and 8 give 0".
abbrev pub placed : Drive → ℕ → Place → Outcome
placed d port p = pick (is_place d.setup p) (told (Status Normal) (with_place d p)) (bad_request d port invalid_parameter)

abbrev pub aimed : Drive → ℕ → ℕ → Outcome
aimed d port target = pick (is_target d.setup target) (told (Status Normal) (with_target d target)) (bad_request d port invalid_parameter)

-- Kind 3. "The code that reads status is never answered C", and it is not one that clears: "(but not M-100's code that reads status)".
unfoldable pub data_control : Drive → ℕ → ℕ → Outcome
data_control d port c = pick (eqb c read_status) (opened d c) (taken_up d port (λ at. controlled (control_of c) at port c))

-- Kinds 7 and 8.
unfoldable pub positioned : Drive → ℕ → Place → Outcome
positioned d port p = taken_up d port (λ at. placed at port p)

unfoldable pub targeted : Drive → ℕ → ℕ → Outcome
targeted d port target = taken_up d port (λ at. aimed at port target)

-- ---- kind 9

-- "Read status answers 0 with the octets and clears that port's".
unfoldable pub status_read : Drive → ℕ → Outcome
status_read d port =
    let p = pending_on d port in
    told (answer.Response (octet0 p) p.octet1 p.octet2) (posted_on d port nothing_pending)
