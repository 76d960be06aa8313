-- Commands and responses (M-100): what a command does at its last word, and what a response tells. "their parameters by kinds 4 and 5 .. but never staged".
use Rattle.std.specs.Prelude.{ℕ, ◌+◌, ◌*◌, ◌&&◌, List, [], ◌∷◌, eqb, get_or}
use Rattle.laws.specs.Pick.{pick}
use Rattle.status.specs.declared.drive_status.DriveStatus.TheVariants.{Normal}
use Rattle.parts.specs.Setup.{is_place, is_target}
use Rattle.parts.specs.Command.{load_drive_function, load_cylinder_address, load_head_address, load_target_sector_address, read_status, read_current_sector_address, function_in}
use Rattle.parts.specs.Control.{is_data, words_to_come}
use Rattle.parts.specs.Pending.{invalid_parameter, unsupported_bus_control, nothing_pending, octet0}
use Rattle.parts.specs.Tests.{parameters, transferring_with, moved_on}
use Rattle.parts.specs.declared.command.Function.{Function}
use Rattle.parts.specs.declared.command.Function.TheVariants.{PriorityReserve, Reserve, Release, NoOperation, Recalibrate, ActsOnMore, NotListed}
use Rattle.parts.specs.declared.setup.Place.{Place}
use Rattle.parts.specs.declared.pending.Pending.{Pending}
use Rattle.parts.specs.declared.transfer.Parameters.{Parameters}
use Rattle.parts.specs.declared.transfer.Transfer.{Transfer}
use Rattle.drive.specs.State.{at_place, with_place, with_target, with_transfer, pending_on, posted_on, told, Result, result}
use Rattle.drive.specs.Drive.{reserved, unreserved, priority_reserved, closed, ended}
use Rattle.drive.specs.Request.{bad_request}
use Rattle.drive.specs.Transfer.{word_staged, word_taken}
use Rattle.drive.specs.declared.drive.Drive.{Drive}
use Rattle.drive.specs.declared.answer.Outcome.{Outcome}
use Rattle.drive.specs.declared.answer.Answer.TheVariants.{Done, Status, Word, LastWord}

-- ---- commands

-- A word before the last is kept: it is parameter word k, counted from 0.
unfoldable pub kept_as : Parameters → ℕ → ℕ → Parameters
kept_as p k word = parameters (pick (eqb k 0) word p.word0) (pick (eqb k 1) word p.word1) (pick (eqb k 2) word p.word2)

abbrev pub with_parameter : Transfer → ℕ → Transfer
with_parameter t word = transferring_with t.control (t.moved + 1) (kept_as t.parameters t.moved word)

-- 04 and 07: "causes the drive to seek to the cylinder specified in the 4 octets transmitted to the drive", "high octet first".
abbrev pub cylinder_of : ℕ → ℕ → ℕ
cylinder_of high low = high * 65536 + low

-- The place that 04, 05, 06 and 07 ask for. 07: "0-3 Cylinder address", "4-5 Head address", "6-7 RPS target sector address".
unfoldable pub place_sought : Transfer → Place → ℕ → Place
place_sought t p last =
    let kept = t.parameters in
    pick (eqb t.control load_cylinder_address) (at_place (cylinder_of kept.word0 last) p.head p.sector)
    (pick (eqb t.control load_head_address) (at_place p.cylinder last p.sector)
    (pick (eqb t.control load_target_sector_address) p
    (at_place (cylinder_of kept.word0 kept.word1) kept.word2 p.sector)))

-- The target that they ask for. 06: "The RPS function is disabled if the sector address is X'FFFF'."
unfoldable pub target_sought : Transfer → ℕ → ℕ → ℕ
target_sought t target last = pick (eqb t.control load_cylinder_address) target (pick (eqb t.control load_head_address) target last)

-- "A place or target outside the drive: bit 6."
unfoldable pub seeking : Drive → ℕ → Place → ℕ → Outcome
seeking d port place target =
    pick (is_place d.setup place && is_target d.setup target) (told (Status Normal) (with_target (with_place d place) target))
    (bad_request d port invalid_parameter)

-- Recalibrate: "causes the drive to move the heads to cylinder 0".
abbrev pub on_cylinder0 : Place → Place
on_cylinder0 p = at_place 0 p.head p.sector

-- 01, by its function. "This function performs no operation."
abbrev pub functioned : Function → Drive → ℕ → Outcome
functioned PriorityReserve d port = told (Status Normal) (priority_reserved d)
functioned Reserve d port = told (Status Normal) (reserved d)
functioned Release d port = told (Status Normal) (unreserved d)
functioned NoOperation d port = told (Status Normal) d
functioned Recalibrate d port = told (Status Normal) (with_place d (on_cylinder0 d.place))
functioned ActsOnMore d port = bad_request d port unsupported_bus_control
functioned NotListed d port = bad_request d port invalid_parameter

-- What a command asks of a drive on which it is closed, by its last word.
unfoldable pub obeyed : Transfer → Drive → ℕ → ℕ → Outcome
obeyed t d port last =
    pick (eqb t.control load_drive_function) (functioned (function_in last) d port)
    (seeking d port (place_sought t d.place last) (target_sought t d.target last))

unfoldable pub parameter_sent : Drive → ℕ → ℕ → Outcome
parameter_sent d port word =
    pick (eqb (d.transfer.moved + 1) (words_to_come d.setup d.transfer.control)) (obeyed d.transfer (closed d) port word)
    (told Done (with_transfer d (with_parameter d.transfer word)))

-- ---- responses

-- 44: "0 Exception Status", "1 Unsolicited Exception Status", "2 Bus Control Exception Status", and five octets that are 0 here.
abbrev pub status_told : Pending → List ℕ
status_told p = (octet0 p * 256 + p.octet1) ∷ p.octet2 * 256 ∷ 0 ∷ 0 ∷ []

-- 46: "0-1 Current sector address".
abbrev pub sector_told : Place → List ℕ
sector_told p = p.sector ∷ []

-- 47: "0-3 Current cylinder address", "4-5 Current head address", "6-7 Current RPS target sector address", "8-9 Current sector address".
abbrev pub position_told : Place → ℕ → List ℕ
position_told p target = 0 ∷ p.cylinder ∷ p.head ∷ target ∷ p.sector ∷ []

unfoldable pub words_told : ℕ → Pending → Place → ℕ → List ℕ
words_told c pending place target =
    pick (eqb c read_status) (status_told pending)
    (pick (eqb c read_current_sector_address) (sector_told place) (position_told place target))

-- "The code that reads status .. clears at its last word."
unfoldable pub status_cleared : ℕ → Drive → ℕ → Drive
status_cleared c d port = pick (eqb c read_status) (posted_on d port nothing_pending) d

unfoldable pub response_taken : Drive → ℕ → Outcome
response_taken d port =
    let t = d.transfer in
    let word = get_or (words_told t.control (pending_on d port) d.place d.target) t.moved 0 in
    pick (eqb (t.moved + 1) (words_to_come d.setup t.control)) (told (LastWord word) (status_cleared t.control (closed d) port))
    (told (Word word) (with_transfer d (moved_on t (t.moved + 1))))

-- ---- kinds 4, 5 and 6, by what is open

unfoldable pub word_from_host : Drive → ℕ → ℕ → List ℕ → List ℕ → Result
word_from_host d port word sectors staging =
    pick (is_data d.transfer.control) (word_staged d word sectors staging) (result (parameter_sent d port word) sectors staging)

unfoldable pub word_to_host : Drive → ℕ → List ℕ → Outcome
word_to_host d port sectors = pick (is_data d.transfer.control) (word_taken d sectors) (response_taken d port)

-- "a command's end doesn't make the sector the next"
unfoldable pub ended_early : Drive → Drive
ended_early d = pick (is_data d.transfer.control) (ended d) (closed d)
