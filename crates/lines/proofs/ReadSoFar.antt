-- A trace read piece by piece: what was read of its front, and what a piece more makes of it. Both readers' loops go by it.
-- Assumes nothing.
use Prim.Native.Nat.{ℕ, suc, ◌+◌, ◌-◌, ◌≤◌, ◌<◌}
use mathlib.Core.Path.{◌≡◌, refl, sym, ap, ◌∙◌}
use mathlib.Core.List.{List, [], ◌∷◌, ◌++◌, map, map-append}
use native.Mathlib.Omega.{arith}
use borrow.Author.Tests.{lt-ltb, le-ltb}
use lib.ListN.{length, get_or, take, drop, set, length-map, length-drop}
use lib.Seq.{take-add, take_all, length-take-le, sets-eq}
use Rattle.laws.specs.Pick.{pick}
use Rattle.laws.specs.Lists.{written_over, written_at}
use Rattle.laws.proofs.Windows.{cut, length_written, part_back, written_next}
use Rattle.lines.specs.Follower.{step_of}
use Rattle.lines.specs.Traces.{after, answers}
use Rattle.lines.specs.Reading.{octet_of, Read, Leaves, step_by_step, TraceRead}
use Rattle.lines.specs.declared.follower.Follower.{Follower}
use Rattle.refusals.specs.declared.refusal.Refusal.TheVariants.{SliceTooShort}
use Rattle.std.specs.Prelude.{Ok, Err}

-- ---- two pieces

after_join : (f : Follower) (a b : List ℕ) → after f (a ++ b) ≡ after (after f a) b
unfolding after
after_join f [] b = refl
after_join f (new ∷ a) b = after_join (step_of f new).follower a b

answers_join : (f : Follower) (a b : List ℕ) → answers f (a ++ b) ≡ answers f a ++ answers (after f a) b
unfolding after answers
answers_join f [] b = refl
answers_join f (new ∷ a) b = ap (λ l. (step_of f new).answer ∷ l) (answers_join (step_of f new).follower a b)

abbrev pub octets : Follower → List ℕ → List ℕ
octets f trace = map octet_of (answers f trace)

octets_join : (f : Follower) (a b : List ℕ) → octets f (a ++ b) ≡ octets f a ++ octets (after f a) b
octets_join f a b = ap (map octet_of) (answers_join f a b) ∙ map-append octet_of (answers f a) (answers (after f a) b)

count_answers : (f : Follower) (trace : List ℕ) → length (answers f trace) ≡ length trace
unfolding answers
count_answers f [] = refl
count_answers f (new ∷ trace) = ap suc (count_answers (step_of f new).follower trace)

pub count_octets : (f : Follower) (trace : List ℕ) → length (octets f trace) ≡ length trace
count_octets f trace = length-map (answers f trace) octet_of ∙ count_answers f trace

-- ---- so many settings read

pub record ReadTo (f : Follower) (trace room₀ : List ℕ) (at : ℕ) (last : Follower) (room : List ℕ) : Type 0 where
  pub within : at ≤ length trace
  pub enough : length trace ≤ length room₀
  pub kept : length room ≡ length room₀
  pub reached : last ≡ after f (take at trace)
  pub written : room ≡ written_over room₀ (octets f (take at trace))

pub read_none : (f : Follower) (trace room : List ℕ) → length trace ≤ length room → ReadTo f trace room 0 f room
unfolding after answers
read_none f trace room h = record { within = omega arith; enough = h; kept = refl; reached = refl; written = refl }

-- a piece of the trace more, its octets written behind the others
pub read_more : (f : Follower) (trace room₀ : List ℕ) (at : ℕ) (last : Follower) (room : List ℕ) (n : ℕ) → at + n ≤ length trace → ReadTo f trace room₀ at last room
    → let piece = take n (drop at trace) in ReadTo f trace room₀ (at + n) (after last piece) (written_at room at (octets last piece))
read_more f trace room₀ at last room n h r =
    let before = take at trace in
    let piece = take n (drop at trace) in
    let front = octets f before in
    let front_length : length front ≡ at = count_octets f before ∙ length-take-le at trace (omega arith) in
    let piece_length : length (octets last piece) ≡ n = count_octets last piece ∙ length-take-le n (drop at trace) (omega (arith, length-drop at trace)) in
    let room_length : length (written_at room at (octets last piece)) ≡ length room = length_written room at (octets last piece) (omega (arith, r.enough, r.kept)) in
    record {
      within = h;
      enough = r.enough;
      kept = room_length ∙ r.kept;
      reached = rw (r.reached, take-add at n trace) (sym (after_join f before piece));
      written = rw (r.reached, r.written, take-add at n trace, octets_join f before piece)
          (ap (λ (k : ℕ). written_at (written_over room₀ front) k (octets (after f before) piece)) (sym front_length) ∙ written_next room₀ front (octets (after f before) piece));
    }

-- a stretch that somebody else read, in the room from its place on
pub stretch_read : (f : Follower) (trace room₀ : List ℕ) (at end : ℕ) (last next : Follower) (room mid : List ℕ) → at ≤ end → end ≤ length trace → ReadTo f trace room₀ at last room
    → Leaves (step_by_step last (take (end - at) (drop at trace))) (take (length room - at) (drop at room)) next mid
    → ReadTo f trace room₀ end next (take at room ++ (mid ++ drop (length room - at) (drop at room)))
stretch_read f trace room₀ at end last next room mid h k r l =
    let n = end - at in
    let there : at + n ≡ end = omega arith in
    let back = part_back room at mid (octets last (take n (drop at trace))) l.1 in
    rw (l.0, back) (rw there at (read_more f trace room₀ at last room n (omega arith) r))

-- one setting more
pub read_one : (f : Follower) (trace room₀ : List ℕ) (at : ℕ) (last : Follower) (room : List ℕ) → at < length trace → ReadTo f trace room₀ at last room
    → let said = step_of last (get_or trace at 0) in ReadTo f trace room₀ (at + 1) said.follower (set room at (octet_of said.answer))
unfolding after answers
read_one f trace room₀ at last room h r =
    let new = get_or trace at 0 in
    let octet = octet_of (step_of last new).answer in
    let one : take 1 (drop at trace) ≡ new ∷ [] = cut trace at 1 0 h refl in
    let stored : set room at octet ≡ written_at room at (octet ∷ []) = sets-eq (octet ∷ []) room at (omega (arith, r.enough, r.kept)) in
    rw stored (rw one at (read_more f trace room₀ at last room 1 (omega arith) r))

-- ---- the whole

pub all_left : (f : Follower) (trace room₀ : List ℕ) (at : ℕ) (last : Follower) (room : List ℕ) → length trace ≤ at → ReadTo f trace room₀ at last room
    → TraceRead (step_by_step f trace) trace room₀ (Ok last) room
unfolding pick
all_left f trace room₀ at last room k r =
    let whole : take at trace ≡ trace = take_all at trace k in
    let reached : last ≡ after f trace = rw (← whole) r.reached in
    let written : room ≡ written_over room₀ (octets f trace) = rw (← whole) r.written in
    let passed = le-ltb (length room₀) (length trace) r.enough in
    record { answer = rw (passed, reached); answers = rw (passed, written) }

pub no_room : (read : Read) (trace room : List ℕ) → length room < length trace → TraceRead read trace room (Err SliceTooShort) room
unfolding pick
no_room read trace room h = let short = lt-ltb (length room) (length trace) h in record { answer = rw short; answers = rw short }
