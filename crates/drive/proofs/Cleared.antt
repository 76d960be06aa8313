-- What is posted on a port, and the drive that a request finds.
-- Assumes nothing.
use Prim.Native.Nat.{ℕ, ◌≤◌}
use mathlib.Core.Path.{◌≡◌, refl, sym, ap, ◌∙◌}
use mathlib.Core.Bool.{Bool, true, false, not}
use mathlib.Core.Logic.{◌⊎◌, inl, inr}
use native.Mathlib.Omega.{arith}
use borrow.Author.Tests.{eqb-true, eqb-false}
use lib.Dec.{eqb}
use Rattle.laws.specs.Pick.{pick}
use Rattle.laws.proofs.Pick.{cases}
use Rattle.parts.specs.Pending.{pending_of, nothing_pending}
use Rattle.parts.specs.declared.pending.Pending.{Pending}
use Rattle.drive.specs.State.{with_pending, pending_on, posted_on}
use Rattle.drive.specs.Request.{octet2_cleared}
use Rattle.drive.specs.declared.drive.Drive.{Drive}

-- what is posted on a port is there, and the other port's is as it was
pub posted_there : (d : Drive) (port : ℕ) (new : Pending) → pending_on (posted_on d port new) port ≡ new
unfolding pending_on posted_on pick
posted_there d port new = cases (λ (p : Pending). p ≡ new) (eqb port 0) (λ z. rw z) (λ z. rw z)

pub posted_elsewhere : (d : Drive) (to port : ℕ) (new : Pending) → eqb port 0 ≡ not (eqb to 0) → pending_on (posted_on d to new) port ≡ pending_on d port
unfolding pending_on posted_on pick
posted_elsewhere d to port new z = by_port (eqb to 0) refl
  where
    by_port : (first : Bool) → eqb to 0 ≡ first → pending_on (posted_on d to new) port ≡ pending_on d port
    by_port true f = rw (z, f)
    by_port false f = rw (z, f)

-- two ports are the same, or the two that there are
pub same_or_other : (port to : ℕ) → port ≤ 1 → to ≤ 1 → (port ≡ to) ⊎ (eqb port 0 ≡ not (eqb to 0))
same_or_other port to h k = by_tests (eqb port 0) refl (eqb to 0) refl
  where
    by_tests : (first : Bool) → eqb port 0 ≡ first → (asked : Bool) → eqb to 0 ≡ asked → (port ≡ to) ⊎ (first ≡ not asked)
    by_tests true f true a = inl (eqb-true port 0 f ∙ sym (eqb-true to 0 a))
    by_tests true f false a = inr refl
    by_tests false f true a = inr refl
    by_tests false f false a = inl (omega (arith, eqb-false port 0 f, eqb-false to 0 a))

-- there is nothing to clear where nothing stands in octet 2
pub nothing_to_clear : (d : Drive) (port : ℕ) → (pending_on d port).octet2 ≡ 0 → octet2_cleared d port ≡ d
unfolding octet2_cleared pending_on posted_on pick
nothing_to_clear d port h = by_port (eqb port 0) refl
  where
    by_port : (first : Bool) → eqb port 0 ≡ first → octet2_cleared d port ≡ d
    by_port true f = rw f (ap (λ (n : ℕ). with_pending d (pending_of d.pending0.octet1 n) d.pending1) (sym (rw f at h)))
    by_port false f = rw f (ap (λ (n : ℕ). with_pending d d.pending0 (pending_of d.pending1.octet1 n)) (sym (rw f at h)))

-- and nothing is pending where octet 1 is zero and octet 2 was cleared
pub nothing_left_lem : (d : Drive) (port : ℕ) → (pending_on d port).octet1 ≡ 0 → pending_on (octet2_cleared d port) port ≡ nothing_pending
unfolding octet2_cleared
nothing_left_lem d port h = posted_there d port _ ∙ ap (λ (octet : ℕ). pending_of octet 0) h
