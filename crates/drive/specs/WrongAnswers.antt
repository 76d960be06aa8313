-- Wrong answers of the public calls: what a careless programmer would get, and no promise allows.
use Rattle.std.specs.Prelude.{ℕ, ◌≡◌, [], replicate, Ok, Err}
use Rattle.parts.specs.Holding.{nobody, held}
use Rattle.parts.specs.Pending.{reset_complete, alternate_port_priority_select, pending_of, nothing_pending}
use Rattle.parts.specs.Tests.{transferring}
use Rattle.parts.specs.declared.holding.Hold.{Hold}
use Rattle.parts.specs.declared.holding.Hold.TheVariants.{None, Plain, Strong}
use Rattle.parts.specs.declared.pending.Pending.{Pending}
use Rattle.drive.specs.State.{at_place, with_holding, with_place, with_target, with_transfer, with_pending}
use Rattle.drive.specs.Drive.{selected, deselected, after_reset, reserved, unreserved, priority_reserved}
use Rattle.drive.specs.Power.{at_rest, setup_of, PoweredUp}
use Rattle.drive.specs.Cases.{bench}
use Rattle.drive.specs.declared.drive.Drive.{Drive}
use Rattle.refusals.specs.declared.refusal.Refusal.TheVariants.{SliceTooShort}

-- The bench drive with a port selected, with this hold.
abbrev pub selected_by : ℕ → Hold → Drive
selected_by port hold = with_holding (at_rest bench) (held port port hold)

-- Port 0 has sent two of the three words of a write.
abbrev pub writing : Drive
writing = with_transfer (selected_by 0 None) (transferring 0x85 2)

-- Port 1 is selected, and this is pending on port 0.
abbrev taken_over : Pending → Drive
taken_over pending = with_pending (selected_by 1 None) pending nothing_pending

-- Reset Complete is pending on both ports.
abbrev reset_done : Drive → Drive
reset_done d = with_pending d (pending_of reset_complete 0) (pending_of reset_complete 0)

pub record WrongAnswers : Type 0 where
  -- ---- `power_up`
  -- 10 for a drive with no heads and empty slices: 9 is tested first.
  pub ten_before_nine : PoweredUp (setup_of 2 0 3 1 2 1 3) [] [] (Err SliceTooShort) → ⊥
  -- A sector slice that lacks the last word is taken.
  pub last_word_lacking : PoweredUp bench (replicate 47 0) (replicate 4 0) (Ok (at_rest bench)) → ⊥
  -- A drive that stands at 0/0/1.
  pub not_at_rest : PoweredUp bench (replicate 48 0) (replicate 4 0) (Ok (with_place (at_rest bench) (at_place 0 0 1))) → ⊥
  -- ---- `Drive::select`
  -- A takeover that keeps the transfer: port 1 would go on with port 0's write.
  pub takeover_keeps_the_transfer : with_transfer (taken_over (pending_of alternate_port_priority_select 0)) (transferring 0x85 2) ≡ selected writing 1 0x31 → ⊥
  -- A takeover that posts Reset Complete.
  pub takeover_posts_reset : taken_over (pending_of reset_complete 0) ≡ selected writing 1 0x31 → ⊥
  -- A takeover that tells the loser nothing.
  pub takeover_posts_nothing : taken_over nothing_pending ≡ selected writing 1 0x31 → ⊥
  -- ---- `Drive::deselect`
  -- A deselection that does nothing.
  pub stays_selected : selected_by 0 None ≡ deselected (selected_by 0 None) → ⊥
  -- A deselection that frees a drive that is held.
  pub frees_the_held : at_rest bench ≡ deselected (selected_by 0 Plain) → ⊥
  -- ---- `Drive::reset`
  -- A reset that keeps the target.
  pub reset_keeps_the_target : reset_done (with_target (at_rest bench) 2) ≡ after_reset (with_target (at_rest bench) 2) → ⊥
  -- A reset that leaves nothing pending.
  pub reset_posts_nothing : at_rest bench ≡ after_reset (at_rest bench) → ⊥
  -- ---- `Drive::reserve`
  -- A Reserve that lowers a strong hold: it makes "at least" a plain one.
  pub reserve_lowers : selected_by 0 Plain ≡ reserved (selected_by 0 Strong) → ⊥
  -- A Reserve that makes no hold.
  pub reserve_makes_none : selected_by 0 None ≡ reserved (selected_by 0 None) → ⊥
  -- ---- `Drive::priority_reserve`
  -- A Priority Reserve that makes a plain hold.
  pub priority_makes_plain : selected_by 0 Plain ≡ priority_reserved (selected_by 0 None) → ⊥
  -- A Priority Reserve that takes the owner away.
  pub priority_disowns : with_holding (at_rest bench) (held 0 nobody Strong) ≡ priority_reserved (selected_by 0 None) → ⊥
  -- ---- `Drive::release`
  -- A Release that frees the drive at once: that is for Deselect.
  pub release_frees : at_rest bench ≡ unreserved (selected_by 0 Plain) → ⊥
  -- A Release that leaves a plain hold of a strong one.
  pub release_leaves_plain : selected_by 0 Plain ≡ unreserved (selected_by 0 Strong) → ⊥
