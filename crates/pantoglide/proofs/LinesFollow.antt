-- `lines_follow`: an octet is read back as the follower that wrote it, so calls of `pg_line` follow one another as steps do.
-- Assumes nothing.
use Prim.Native.Nat.{ℕ, zero, suc, ◌+◌, ◌/◌, ◌%◌, ◌<◌, ◌≤◌}
use mathlib.Core.Path.{◌≡◌, refl, sym, ap}
use mathlib.Core.Bool.{Bool, true, false}
use mathlib.Core.List.{List}
use native.Mathlib.Omega.{arith}
use borrow.Author.Tests.{not-false}
use lib.Dec.{eqb}
use lib.ListN.{length, get_or, set}
use lib.Seq.{get_or-set_same}
use Rattle.laws.specs.Pick.{pick}
use Rattle.laws.specs.Rows.{first, unless_refused}
use Rattle.laws.proofs.Rows.{all_passed}
use Rattle.lines.specs.Follower.{refused, is_reached, while_lost, moved, step_rows, step_of}
use Rattle.lines.proofs.Reached.{reached_below_32, step_stays}
use Rattle.lines.specs.declared.follower.Follower.{Follower}
use Rattle.refusals.specs.Refusal.{named}
use Rattle.pantoglide.specs.Line.{setting_in, follower_in, follower_octet, LineFollowed, LinesFollow}
use Rattle.pantoglide.proofs.Lines.{with_octet}

-- ---- an octet, read back

by_bits : (n s b5 b6 : ℕ) → n / 128 % 2 ≡ 0 → n / 32 % 2 ≡ b5 → n / 64 % 2 ≡ b6 → n % 32 ≡ s → follower_in n ≡ record { setting = s; history = eqb b5 1; lost = eqb b6 1 }
unfolding follower_in setting_in pick
by_bits n s b5 b6 e7 e5 e6 m = rw (e7, e5, e6, m)

octet_back : (s : ℕ) (history lost : Bool) → s < 32 → follower_in (s % 32 + pick history 32 0 + pick lost 64 0) ≡ record { setting = s; history = history; lost = lost }
unfolding pick
octet_back s true true h = by_bits _ s 1 1 (omega arith) (omega arith) (omega arith) (omega arith)
octet_back s true false h = by_bits _ s 1 0 (omega arith) (omega arith) (omega arith) (omega arith)
octet_back s false true h = by_bits _ s 0 1 (omega arith) (omega arith) (omega arith) (omega arith)
octet_back s false false h = by_bits _ s 0 0 (omega arith) (omega arith) (omega arith) (omega arith)

pub read_back : (f : Follower) → f.setting < 32 → follower_in (follower_octet f) ≡ f
unfolding follower_octet
read_back f h = octet_back f.setting f.history f.lost h

-- ---- a call

module _ {octets : List ℕ} {setting r : ℕ} {octets' : List ℕ} (there : 1 ≤ length octets) (w : LineFollowed octets setting r octets') where
  abbrev before : Follower
  before = follower_in (get_or octets 0 0)

  abbrev next : Follower
  next = (step_of before setting).follower

  refused_stays : (n : ℕ) → first (step_rows before setting) ≡ suc n → next ≡ before
  unfolding step_of
  refused_stays n z = ap (λ (m : ℕ). (unless_refused m (refused (named m) before) (pick before.lost (while_lost setting) (moved before setting))).follower) z

  followed_by : (n : ℕ) → first (step_rows before setting) ≡ n → octets' ≡ unless_refused n octets (set octets 0 (follower_octet next)) → follower_in (get_or octets' 0 0) ≡ next
  followed_by zero z e =
      let reached = not-false (is_reached before) (all_passed (step_rows before setting) refl z).0 in
      rw (e, get_or-set_same octets 0 (follower_octet next) 0 there) (read_back next (reached_below_32 next (step_stays before setting reached)))
  followed_by (suc n) z e = rw e (sym (refused_stays n z))

  followed : follower_in (get_or octets' 0 0) ≡ next
  followed = followed_by (first (step_rows before setting)) refl (rw (with_octet octets (step_rows before setting) there) at w.follower)

pub lines_follow : LinesFollow
unfolding follower_in setting_in pick
lines_follow = record { start = refl; next = λ there w. followed there w }
