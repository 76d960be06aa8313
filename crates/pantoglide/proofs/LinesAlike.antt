-- `lines_alike`: the two calls for a trace promise the same, and the octet behind it is read back as the follower behind it.
-- Assumes nothing.
use Prim.Native.Nat.{ℕ, ◌≤◌}
use mathlib.Core.Path.{◌≡◌, refl, sym}
use mathlib.Core.Bool.{Bool, true, false}
use mathlib.Core.List.{List}
use borrow.Author.Tests.{ltb-false}
use lib.ListN.{length, get_or, set}
use lib.Seq.{get_or-set_same}
use Rattle.laws.specs.Pick.{pick}
use Rattle.laws.proofs.Rows.{all_passed}
use Rattle.lines.specs.Follower.{is_reached}
use Rattle.lines.specs.Traces.{after}
use Rattle.lines.specs.Reading.{step_by_step}
use Rattle.lines.proofs.Reached.{reached_below_32, trace_stays, trace_refused_lem}
use Rattle.lines.proofs.Turns.{plainly}
use Rattle.lines.specs.declared.follower.Follower.{Follower}
use Rattle.pantoglide.specs.Line.{follower_in, follower_octet}
use Rattle.pantoglide.specs.Lines.{lines_rows, LinesRead, LinesAlike}
use Rattle.pantoglide.proofs.LinesFollow.{read_back}

module _ {octets trace answers octets' answers' : List ℕ} (w : LinesRead step_by_step octets trace answers 0 octets' answers') where
  abbrev before : Follower
  before = follower_in (get_or octets 0 0)

  there : 1 ≤ length octets
  there = ltb-false (length octets) 1 (all_passed (lines_rows octets trace answers) refl (sym w.refusal)).0

  left_by : (reached : Bool) → is_reached before ≡ reached → octets' ≡ pick reached (set octets 0 (follower_octet (after before trace))) octets
      → follower_in (get_or octets' 0 0) ≡ after before trace
  unfolding pick
  left_by true e o =
      let next = after before trace in
      rw (o, get_or-set_same octets 0 (follower_octet next) 0 there) (read_back next (reached_below_32 next (trace_stays before trace e)))
  left_by false e o = rw o (sym (trace_refused_lem before trace e))

  followed : follower_in (get_or octets' 0 0) ≡ after before trace
  followed = left_by (is_reached before) refl w.follower

pub lines_alike : LinesAlike
lines_alike =
    record {
      alike = λ {follower₀} {trace}.
          let same = plainly (follower_in (get_or follower₀ 0 0)) trace in (
            λ h. record { refusal = h.refusal; follower = rw same at h.follower; answers = rw same at h.answers },
            λ h. record { refusal = h.refusal; follower = rw same h.follower; answers = rw same h.answers },
          );
      next = λ w. followed w;
    }
