-- "Who holds the drive".
use Rattle.std.specs.Prelude.{ℕ, ◌%◌, ◌≡◌, Bool, true, false, not, ◌&&◌, eqb}
use Rattle.laws.specs.Pick.{pick}
use Rattle.laws.specs.Octets.{bit}
use Rattle.parts.specs.declared.holding.Hold.{Hold}
use Rattle.parts.specs.declared.holding.Hold.TheVariants.{None, Plain, Strong}
use Rattle.parts.specs.declared.holding.Holding.{Holding}

-- Ports are 0 and 1; 2 stands for nobody.
abbrev pub nobody : ℕ
nobody = 2

abbrev pub holds : Hold → Bool
holds None = false
holds Plain = true
holds Strong = true

-- "Octet bit 1 is Priority Hold, bit 0 Priority Select."
abbrev pub priority_hold : ℕ → Bool
priority_hold octet = bit 1 octet

abbrev pub priority_select : ℕ → Bool
priority_select octet = bit 0 octet

-- "A granted selection sets the hold: none without bit 1; plain with bit 1 only; strong with both"
unfoldable pub hold_set : ℕ → Hold
hold_set octet = pick (priority_hold octet) (pick (priority_select octet) Strong Plain) None

-- The hold on paper: bits 1 and 0 of the octet that sets it, 0 for none.
abbrev pub paper : Hold → ℕ
paper None = 0
paper Plain = 2
paper Strong = 3

-- "Owned by the other port: strong, busy; plain, granted only with both bits; none, granted only with bit 0."
abbrev pub holds_against : Hold → ℕ → Bool
holds_against Strong octet = true
holds_against Plain octet = not (priority_hold octet && priority_select octet)
holds_against None octet = not (priority_select octet)

-- The owner is the other port.
abbrev pub is_owned_by_other : Holding → ℕ → Bool
is_owned_by_other h port = not (eqb h.owner nobody) && not (eqb h.owner port)

-- "Free, or owned by the asker: granted." Else as above.
unfoldable pub is_busy : Holding → ℕ → ℕ → Bool
is_busy h port octet = is_owned_by_other h port && holds_against h.hold octet

abbrev pub held : ℕ → ℕ → Hold → Holding
held selected owner hold = record { selected = selected; owner = owner; hold = hold }

-- "A granted selection sets the hold", and makes the port selected and owner.
unfoldable pub granted_to : ℕ → ℕ → Holding
granted_to port octet = held port port (hold_set octet)

-- "Deselect frees the drive if the hold is none; otherwise the port still owns it."
abbrev pub released_from : Hold → ℕ → Holding
released_from None owner = held nobody nobody None
released_from Plain owner = held nobody owner Plain
released_from Strong owner = held nobody owner Strong

unfoldable pub released : Holding → Holding
released h = released_from h.hold h.owner

-- "Reserve by the selected port makes at least a plain hold"
abbrev pub at_least_plain : Hold → Hold
at_least_plain None = Plain
at_least_plain Plain = Plain
at_least_plain Strong = Strong

abbrev pub with_hold : Holding → Hold → Holding
with_hold h hold = held h.selected h.owner hold

-- "nobody selected, no hold"
abbrev pub free : Holding
free = held nobody nobody None

-- The promises of `granted_to`, `no_holding` and `released`: the holding, and its hold on paper.
pub record HoldingSaid (holding : Holding) (bits : ℕ) (r : Holding) : Type 0 where
  pub answer : r ≡ holding
  pub on_paper : paper r.hold ≡ bits

abbrev pub Granted : ℕ → ℕ → Holding → Type 0
Granted port octet r = HoldingSaid (granted_to port octet) (pick (priority_hold octet) (octet % 4) 0) r

abbrev pub NotHeld : Holding → Type 0
NotHeld r = HoldingSaid free 0 r

abbrev pub Released : Holding → Holding → Type 0
Released h r = HoldingSaid (released h) (paper h.hold) r
