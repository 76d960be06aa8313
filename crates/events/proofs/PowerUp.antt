-- Power-up on words: from what the drive's power-up answers to the promise.
-- Assumes nothing.
use Rattle.std.proofs.Common.{◌≡◌, ℕ, ◌<◌, ◌≤◌, Bool, true, false, not, List, length, sym, le-ltb, lt-ltb}
use Rattle.std.specs.Prelude.{Ok, Err, nat_lt}
use Rattle.laws.specs.Pick.{pick}
use Rattle.laws.specs.Lists.{written_over}
use Rattle.refusals.specs.Refusal.{number}
use Rattle.refusals.specs.declared.refusal.Refusal.{Refusal}
use Rattle.refusals.proofs.OnPaper.{left_as_it_was, number_is_not_0}
use Rattle.parts.specs.Setup.{within_limits}
use Rattle.parts.specs.declared.setup.Setup.{Setup}
use Rattle.drive.specs.Refusal.{row10}
use Rattle.drive.specs.Power.{PoweredUp}
use Rattle.drive.specs.declared.drive.Drive.{Drive}
use Rattle.drive.proofs.Powered.{row_refused, risen}
use Rattle.events.specs.State.{state_words}
use Rattle.events.specs.Power.{PoweredUpOnWords}

pub power_refused : {s : Setup} {sectors staging : List ℕ} (state : List ℕ) {refusal : Refusal} → PoweredUp s sectors staging (Err refusal)
    → PoweredUpOnWords s sectors staging state (number refusal) state
unfolding pick
power_refused {s} {sectors} {staging} state {refusal} p =
    let e = by_rows (within_limits s) (row10 s sectors staging) (row_refused p) in
    record { answer = e; state = sym (left_as_it_was refusal _ (sym e)) }
  where
    by_rows : (limits short : Bool) → pick (not limits) 9 (pick short 10 0) ≡ number refusal → number refusal ≡ pick (not limits) 9 (pick short 10 (pick (nat_lt (length state) 21) 10 0))
    by_rows false short e = sym e
    by_rows true true e = sym e
    by_rows true false e = absurd (number_is_not_0 refusal (sym e))

pub no_room_for_state : {s : Setup} {sectors staging : List ℕ} (state : List ℕ) {d : Drive} → PoweredUp s sectors staging (Ok d) → length state < 21
    → PoweredUpOnWords s sectors staging state 10 state
unfolding pick
no_room_for_state state p short =
    let u = risen p in
    let e = lt-ltb (length state) 21 short in
    record { answer = rw (u.limits, u.room, e); state = rw (u.limits, u.room, e) }

pub powered : {s : Setup} {sectors staging : List ℕ} (state : List ℕ) {state' : List ℕ} {d : Drive} → PoweredUp s sectors staging (Ok d) → 21 ≤ length state
    → state' ≡ written_over state (state_words d) → PoweredUpOnWords s sectors staging state 0 state'
unfolding pick
powered state p long w =
    let u = risen p in
    let e = le-ltb (length state) 21 long in
    record { answer = rw (u.limits, u.room, e); state = rw (u.limits, u.room, e, ← u.drive) w }
