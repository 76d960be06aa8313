-- M-102, ignored operation exceptions: what becomes of a request that is not refused, and that from power-up no port ever has two bits of octet 2.
use Rattle.std.specs.Prelude.{ℕ, ◌%◌, ◌<◌, ◌≡◌, false, List}
use Rattle.status.specs.declared.drive_status.DriveStatus.TheVariants.{UnsolicitedException}
use Rattle.parts.specs.Pending.{OneBit, pending_of}
use Rattle.parts.specs.Kind.{kind_of}
use Rattle.parts.specs.declared.setup.Setup.{Setup}
use Rattle.parts.specs.declared.event.Event.{Event}
use Rattle.drive.specs.State.{pending_on, posted_on}
use Rattle.drive.specs.Request.{octet2_cleared}
use Rattle.drive.specs.Refusal.{row11}
use Rattle.drive.specs.Power.{at_rest}
use Rattle.drive.specs.Accepted.{is_refused}
use Rattle.drive.specs.Run.{Machine, machine, answer_to, after, final}
use Rattle.drive.specs.Frame.{ClearsFirst, RequestLeaves}
use Rattle.drive.specs.declared.drive.Drive.{Drive}
use Rattle.drive.specs.declared.answer.Answer.TheVariants.{Status}

-- A bit of octet 1 is pending on the event's port: the answer is C, and nothing changes.
pub record Stopped (m : Machine) (e : Event) : Type 0 where
  pub answered : answer_to m e ≡ Status UnsolicitedException
  pub unchanged : after m e ≡ m

-- The same machine with octet 2 of a port cleared.
abbrev pub cleared_on : Machine → ℕ → Machine
cleared_on m port = machine (octet2_cleared m.drive port) m.sectors m.staging

-- None is pending: the request clears octet 2 and sets its own bit if it is bad; and what stood in octet 2 plays no part in its answer or in what it
-- leaves.
pub record Judged (m : Machine) (e : Event) : Type 0 where
  pub leaves : RequestLeaves (answer_to m e) (pending_on (after m e).drive e.port)
  pub same_answer : answer_to m e ≡ answer_to (cleared_on m e.port) e
  pub same_end : after m e ≡ after (cleared_on m e.port) e

-- No bit of octet 2, or one.
pub data OneAtMost : ℕ → Type 0 where
  none : OneAtMost 0
  one : {bit : ℕ} → OneBit bit → OneAtMost bit

pub record Ignored : Type 0 where
  -- "an event of kind 3, 7 or 8 (but not M-100's code that reads status) that is not refused and not answered C first clears that port's octet 2, then
  -- sets its own bit if it is bad." It is answered C exactly where a bit of octet 1 is pending.
  pub stopped : (m : Machine) (e : Event) → ClearsFirst e (kind_of e.kind) → is_refused (answer_to m e) ≡ false
      → ((pending_on m.drive e.port).octet1 ≡ 0 → ⊥) → Stopped m e
  pub clears_first : (m : Machine) (e : Event) → ClearsFirst e (kind_of e.kind) → is_refused (answer_to m e) ≡ false
      → (pending_on m.drive e.port).octet1 ≡ 0 → Judged m e
  -- From power-up no port ever has two bits of octet 2, not even by a command's last word, which only sets its bit.
  pub one_fault_at_a_time : (s : Setup) (sectors staging : List ℕ) (events : List Event) (port : ℕ)
      → OneAtMost (pending_on (final (machine (at_rest s) sectors staging) events).drive port).octet2
  -- A sound drive stays sound with any of the bits 7 to 4 in octet 2 of a port, also several: such a state may be handed in.
  pub several_stay_legal : (d : Drive) (port octet2 : ℕ) → row11 d ≡ false → octet2 < 256 → octet2 % 16 ≡ 0
      → row11 (posted_on d port (pending_of (pending_on d port).octet1 octet2)) ≡ false
