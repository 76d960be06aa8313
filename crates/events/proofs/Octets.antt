-- What is pending fits its octets after every event, so that the words of the state say it.
-- Assumes nothing.
use Rattle.std.proofs.Common.{◌<◌, arith}
use Rattle.parts.specs.Pending.{noticed, faulted}
use Rattle.parts.proofs.Bits.{bit_fits}
use Rattle.parts.specs.declared.pending.Pending.{Pending}
use Rattle.drive.specs.Run.{Machine, after}
use Rattle.drive.specs.declared.drive.Drive.{Drive}
use Rattle.drive.proofs.Posted.{OnBoth, kept_on_both}
use Rattle.parts.specs.declared.event.Event.{Event}

-- octet 2; octet 1 stands above it in its word
abbrev pub Octet2 : Pending → Type 0
Octet2 p = p.octet2 < 256

abbrev pub Octets : Drive → Type 0
Octets d = OnBoth Octet2 d

pub octets_after : (m : Machine) (e : Event) → Octets m.drive → Octets (after m e).drive
unfolding noticed faulted
octets_after =
    kept_on_both Octet2 (record { nothing = omega arith; reset = omega arith; notice = λ p h. h; fault = λ p b h. bit_fits p.octet2 b h; clear = λ p h. omega arith })
