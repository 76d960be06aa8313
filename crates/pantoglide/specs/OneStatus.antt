-- One status: what the drive answers, `status` decodes.
use Rattle.std.specs.Prelude.{ℕ, ◌/◌, ◌%◌, ◌≡◌, List, [], ◌∷◌, ◌++◌, Result, Ok}
use Rattle.std.proofs.Math.Option.{some}
use Rattle.parts.specs.declared.event.Event.{Event}
use Rattle.status.specs.DriveStatus.{octet_of, status_of, DecodedDriveStatus}
use Rattle.status.specs.Response.{response_of, response_octets, DecodedResponse}
use Rattle.status.specs.declared.drive_status.DriveStatus.{DriveStatus}
use Rattle.status.specs.declared.response.Response.{Response}
use Rattle.refusals.specs.declared.refusal.Refusal.{Refusal}
use Rattle.drive.specs.Answer.{paper}
use Rattle.drive.specs.State.{pending_on}
use Rattle.drive.specs.Bounded.{PendingOctets}
use Rattle.drive.specs.Run.{Machine, answer_to, answers}
use Rattle.drive.specs.Commands.{Idle, status_asked, taken}
use Rattle.drive.specs.declared.answer.Answer.TheVariants.{Opened}

-- An octet that `decode_drive_status` takes, whatever follows it: the status is the one that has this octet.
pub record StatusTaken (octet : ℕ) : Type 0 where
  pub taken : (rest : List ℕ) (r : Result DriveStatus Refusal) → DecodedDriveStatus (octet ∷ rest) r → r ≡ Ok (status_of octet)
  pub same : octet_of (status_of octet) ≡ octet

-- Octets that `decode_response` takes, whatever follows them: its bits are those that were pending on the port.
pub record ResponseTaken (m : Machine) (port : ℕ) (octets : List ℕ) : Type 0 where
  pub taken : (rest : List ℕ) (r : Result Response Refusal) → DecodedResponse (octets ++ rest) r
      → r ≡ Ok (response_of (pending_on m.drive port).octet1 (pending_on m.drive port).octet2)
  pub same : response_octets (response_of (pending_on m.drive port).octet1 (pending_on m.drive port).octet2) ≡ octets

-- "high octet first"
abbrev pub octets_in : List ℕ → List ℕ
octets_in [] = []
octets_in (word ∷ words) = word / 256 ∷ word % 256 ∷ octets_in words

-- The words of code 44: their octets are those of a response.
pub record WordsTaken (m : Machine) (port : ℕ) : Type 0 where
  pub words : List ℕ
  pub told : answers m (status_asked port 4) ≡ Opened 4 m.drive.place ∷ taken words
  pub response : ResponseTaken m port (octets_in words)

-- Of every event on a drive whose pending octets are octets, as they are from power-up on.
pub record OneStatus : Type 0 where
  pub status : (m : Machine) (e : Event) → PendingOctets m → (octet : ℕ) → (paper (answer_to m e)).status ≡ some octet → StatusTaken octet
  pub response : (m : Machine) (e : Event) → PendingOctets m → (octets : List ℕ) → (paper (answer_to m e)).response ≡ some octets → ResponseTaken m e.port octets
  -- Whichever way it is asked for, the response is one.
  pub by_44 : (m : Machine) (port : ℕ) → Idle m port → PendingOctets m → WordsTaken m port
