-- What the code of a turn leaves: it takes a setting, puts its octet in front, and leaves the rest to whose turn it is. The same of either side.
-- Assumes nothing.
use Prim.Native.Nat.{ℕ, ◌-◌, ◌≤◌, ◌<◌}
use mathlib.Core.Path.{◌≡◌, refl, ap, ◌∙◌}
use mathlib.Core.Bool.{Bool}
use mathlib.Core.List.{List, [], ◌∷◌, ◌++◌, map}
use native.Mathlib.Omega.{arith}
use lib.ListN.{length, get_or, take, drop, set}
use Rattle.laws.specs.Pick.{pick}
use Rattle.laws.specs.Lists.{written_over, written_at}
use Rattle.laws.proofs.Lists.{stored}
use Rattle.laws.proofs.Windows.{part_back, written_next}
use Rattle.lines.specs.Reading.{octet_of, Read, Leaves}
use Rattle.lines.specs.Turns.{is_controllers, is_drives, controller_takes, drive_takes, ◌then◌, nothing_left, controllers_turn, drives_turn}
use Rattle.lines.specs.declared.follower.Follower.{Follower}
use Rattle.lines.specs.declared.follower.Followed.{Followed}

-- an octet in front, and a part behind it
behind_the_first : (room part : List ℕ) (x : ℕ) → 1 ≤ length room → written_at (set room 0 x) 1 part ≡ written_over room (x ∷ part)
behind_the_first room part x h = ap (λ (l : List ℕ). written_at l 1 part) (stored room (x ∷ []) h) ∙ written_next room (x ∷ []) part

-- ---- a side: how it takes a setting, its turn and the other's, and the other's moves, at which it hands over

pub record Turn : Type 0 where
  pub takes_it : Follower → ℕ → Followed
  pub turn : Follower → List ℕ → Read
  pub other : Follower → List ℕ → Read
  pub is_move : Follower → ℕ → Bool
  pub ends : (f : Follower) (new : ℕ) → turn f (new ∷ []) ≡ (takes_it f new then nothing_left)
  pub goes : (f : Follower) (new next : ℕ) (rest : List ℕ)
      → turn f (new ∷ next ∷ rest) ≡ (takes_it f new then λ f'. pick (is_move f' next) (other f' (next ∷ rest)) (turn f' (next ∷ rest)))

pub controllers_end : (f : Follower) (new : ℕ) → controllers_turn f (new ∷ []) ≡ (controller_takes f new then nothing_left)
unfolding controllers_turn pick
controllers_end f new = refl

pub controllers_go : (f : Follower) (new next : ℕ) (rest : List ℕ)
    → controllers_turn f (new ∷ next ∷ rest) ≡ (controller_takes f new then λ f'. pick (is_drives f' next) (drives_turn f' (next ∷ rest)) (controllers_turn f' (next ∷ rest)))
unfolding controllers_turn
controllers_go f new next rest = refl

abbrev pub controllers : Turn
controllers = record { takes_it = controller_takes; turn = controllers_turn; other = drives_turn; is_move = is_drives; ends = controllers_end; goes = controllers_go }

pub drives_end : (f : Follower) (new : ℕ) → drives_turn f (new ∷ []) ≡ (drive_takes f new then nothing_left)
unfolding drives_turn pick
drives_end f new = refl

pub drives_go : (f : Follower) (new next : ℕ) (rest : List ℕ)
    → drives_turn f (new ∷ next ∷ rest) ≡ (drive_takes f new then λ f'. pick (is_controllers f' next) (controllers_turn f' (next ∷ rest)) (drives_turn f' (next ∷ rest)))
unfolding drives_turn
drives_go f new next rest = refl

abbrev pub drives : Turn
drives = record { takes_it = drive_takes; turn = drives_turn; other = controllers_turn; is_move = is_controllers; ends = drives_end; goes = drives_go }

module _ (side : Turn) where
  pub turn_ended : (f : Follower) (trace room : List ℕ) (taken : Followed) (x : ℕ) → 0 < length trace → length trace < 2 → length trace ≤ length room
      → taken ≡ side.takes_it f (get_or trace 0 0) → x ≡ octet_of taken.answer → Leaves (side.turn f trace) room taken.follower (set room 0 x)
  turn_ended f [] room taken x some few h t o = absurd (omega arith)
  turn_ended f (new ∷ next ∷ rest) room taken x some few h t o = absurd (omega arith)
  turn_ended f (new ∷ []) room taken x some few h t o = rw (side.ends f new, ← t, ← o) (refl, stored room (x ∷ []) h)

  pub turn_goes_on : (f : Follower) (trace left room : List ℕ) (taken : Followed) (x : ℕ) (hands : Bool) (last : Follower) (mid : List ℕ)
      → 2 ≤ length trace → length trace ≤ length room → left ≡ drop 1 trace → taken ≡ side.takes_it f (get_or trace 0 0) → x ≡ octet_of taken.answer
      → hands ≡ side.is_move taken.follower (get_or left 0 0)
      → let put = set room 0 x in
      Leaves (pick hands (side.other taken.follower left) (side.turn taken.follower left)) (take (length put - 1) (drop 1 put)) last mid
      → Leaves (side.turn f trace) room last (take 1 put ++ (mid ++ drop (length put - 1) (drop 1 put)))
  turn_goes_on f [] left room taken x hands last mid more h d t o e l = absurd (omega arith)
  turn_goes_on f (new ∷ []) left room taken x hands last mid more h d t o e l = absurd (omega arith)
  turn_goes_on f (new ∷ next ∷ rest) left room taken x hands last mid more h d t o e l =
      let read = pick hands (side.other taken.follower left) (side.turn taken.follower left) in
      let part = map octet_of read.answers in
      let same : side.turn f (new ∷ next ∷ rest) ≡ (taken then λ f'. read) = side.goes f new next rest ∙ rw (e, d, t) in
      rw (same, ← o) (l.0, part_back (set room 0 x) 1 mid part l.1 ∙ behind_the_first room part x (omega arith))
