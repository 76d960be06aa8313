-- `take_up` meets its contract.
-- Assumes nothing.
use Rattle.std.proofs.Common.{◌≡◌, ℕ, ◌+◌, ◌/◌, ◌≤◌, true, false, List, get_or, set, sym, refl, ap, ◌∙◌, eq-eqb, ne_eqb}
use Rattle.laws.specs.Pick.{pick}
use Rattle.parts.specs.Pending.{pending_of, nothing_pending}
use Rattle.drive.specs.State.{pending_on, posted_on}
use Rattle.drive.specs.Request.{octet2_cleared}
use Rattle.events.specs.State.{pending_word, pending_in, drive_in, moved_to}
use Rattle.events.specs.Fit.{Fit, TakenUp}
use Rattle.events.proofs.Done.{known}
use Rattle.events.proofs.Changes.{pending_at, posted}
use Rattle.events.proofs.pending.take_up.Goals as goal

-- octet 1 stands above octet 2 in its word
octet_1 : (port : ℕ) (state : List ℕ) → port ≤ 1 → (pending_on (drive_in state) port).octet1 ≡ get_or state (16 + port) 0 / 256
unfolding pending_in
octet_1 port state h = rw (pending_at port state h)

stopped : (state : List ℕ) (port : ℕ) → port ≤ 1 → (get_or state (16 + port) 0 / 256 ≡ 0 → ⊥) → TakenUp state port false state
unfolding pick
stopped state port h n = record { heard = rw (octet_1 port state h, ne_eqb _ 0 n); state = refl }

-- with octet 1 zero, nothing is pending where octet 2 is cleared
cleared : (state : List ℕ) (port : ℕ) → Fit state → port ≤ 1 → get_or state (16 + port) 0 / 256 ≡ 0 → TakenUp state port true (set state (16 + port) 0)
unfolding pick octet2_cleared pending_word
cleared state port f h z =
    record {
      heard = rw (octet_1 port state h, eq-eqb _ 0 z);
      state =
          posted port nothing_pending state h f.long (known f)
          ∙ ap (λ (octet : ℕ). moved_to state (posted_on (drive_in state) port (pending_of octet 0))) (sym (octet_1 port state h ∙ z));
    }

pub returns-then-state-at-ne0 : goal.returns-then-state-at-ne0
returns-then-state-at-ne0 c =
    stopped _ _ c.requires.1 c.if-state-at-ne0.true

pub returns : goal.returns
returns c =
    cleared _ _ c.requires.0 c.requires.1 c.if-state-at-ne0.false
