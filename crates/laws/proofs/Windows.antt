-- Windows of lists: the first word of a run, what a turn of a copy does, what a paste puts where and leaves, and a part replaced.
-- Assumes nothing.
use Prim.Native.Nat.{ℕ, suc, ◌+◌, ◌-◌, ◌<◌, ◌≤◌}
use mathlib.Core.Path.{◌≡◌, refl, sym, ap, ◌∙◌}
use mathlib.Core.Bool.{Bool, true, false, ◌&&◌}
use mathlib.Core.List.{List, [], ◌∷◌, ◌++◌, append_assoc, append-nil}
use native.Mathlib.Nat.{add-zero}
use native.Mathlib.Numerals.{add-one}
use native.Mathlib.Omega.{arith}
use borrow.Author.Tests.{ltb-true, ltb-false, leb-true, leb-false}
use lib.Dec.{ltb, leb}
use lib.ListN.{length, get_or, take, drop, set, length-append, length-drop, take-append-drop, drop_of_length-le, get_or-append}
use lib.Seq.{drop-cons, drop-drop, drop-append-add, drop_at, drop-paste, paste, paste-suc, take-add, take-append_seam, take_at, take-length, take-paste, get_or-drop, get_or-take, get_or-append-add, length-take-le, length-paste, length_paste_head}
use Rattle.laws.specs.Lists.{written_over, written_at}
use Rattle.laws.specs.Pick.{pick}
use Rattle.laws.proofs.Runs.{rest_whole}

-- the first of a run, and the rest of it
pub cut : (l : List ℕ) (p m r : ℕ) → p < length l → m ≡ suc r → take m (drop p l) ≡ get_or l p 0 ∷ take r (drop (p + 1) l)
cut l p m r h e = rw (e, add-one, drop-cons l p 0)

-- a turn of a copy: j are pasted, and then one more
pub copy_step : (d : List ℕ) (at : ℕ) (s : List ℕ) (from n j : ℕ) → j < n → at + n ≤ length d → from + n ≤ length s
    → set (paste d at (drop from s) j) (at + j) (get_or s (from + j) 0) ≡ paste d at (drop from s) (j + 1)
copy_step d at s from n j h hd hs =
    let hl : j < length (drop from s) = simp length-drop (omega arith) in
    let hi : at + j < length d = omega arith in
    rw (add-one, ← (get_or-drop from s j 0), paste-suc d at (drop from s) j 0)

-- two pastes of which one follows the other are one
pub paste_on : (d : List ℕ) (at : ℕ) (s : List ℕ) (n m : ℕ) → at + n ≤ length d → n ≤ length s → paste d at s (n + m) ≡ paste (paste d at s n) (at + n) (drop n s) m
paste_on d at s n m hd hs =
    let sum : at + (n + m) ≡ at + n + m = omega arith in
    let front = take-paste d at s n (omega arith) hs in
    let back = drop-paste d at s n (omega arith) hs in
    rw (sum, take-add n m s, front, ← (drop-drop m (at + n) (paste d at s n)), back, drop-drop m (at + n) d, append_assoc (take at d) (take n s) (take m (drop n s)))

-- the frame of a paste: before it, in it, after it
pub paste_before : (d : List ℕ) (at : ℕ) (s : List ℕ) (n i : ℕ) → at ≤ length d → n ≤ length s → i < at → get_or (paste d at s n) i 0 ≡ get_or d i 0
paste_before d at s n i hd hs h =
    let e = length_paste_head d at s n hd hs in
    let t = length-take-le at d hd in
    let h1 : i < length (take at d ++ take n s) = omega arith in
    let h2 : i < length (take at d) = omega arith in
    rw (get_or-append (take at d ++ take n s) (drop (at + n) d) 0 i h1, get_or-append (take at d) (take n s) 0 i h2, get_or-take at d i 0 h)

pub paste_in : (d : List ℕ) (at : ℕ) (s : List ℕ) (n i : ℕ) → at ≤ length d → n ≤ length s → i < n → get_or (paste d at s n) (at + i) 0 ≡ get_or s i 0
paste_in d at s n i hd hs h =
    let e = length_paste_head d at s n hd hs in
    let t = length-take-le at d hd in
    let h1 : at + i < length (take at d ++ take n s) = omega arith in
    get_or-append (take at d ++ take n s) (drop (at + n) d) 0 (at + i) h1
    ∙ ap (λ (k : ℕ). get_or (take at d ++ take n s) (k + i) 0) (sym t)
    ∙ get_or-append-add (take at d) (take n s) i 0
    ∙ get_or-take n s i 0 h

pub paste_after : (d : List ℕ) (at : ℕ) (s : List ℕ) (n i : ℕ) → at ≤ length d → n ≤ length s → get_or (paste d at s n) (at + n + i) 0 ≡ get_or d (at + n + i) 0
paste_after d at s n i hd hs =
    let e = length_paste_head d at s n hd hs in
    ap (λ (k : ℕ). get_or (paste d at s n) (k + i) 0) (sym e)
    ∙ get_or-append-add (take at d ++ take n s) (drop (at + n) d) i 0
    ∙ get_or-drop (at + n) d i 0

-- the same by the range that an index lies in
pub paste_at : (d : List ℕ) (at : ℕ) (s : List ℕ) (n i : ℕ) → at ≤ length d → n ≤ length s
    → get_or (paste d at s n) i 0 ≡ pick (leb at i && ltb i (at + n)) (get_or s (i - at) 0) (get_or d i 0)
unfolding pick
paste_at d at s n i hd hs = by_range (leb at i) refl (ltb i (at + n)) refl
  where
    by_range : (low : Bool) → leb at i ≡ low → (high : Bool) → ltb i (at + n) ≡ high
        → get_or (paste d at s n) i 0 ≡ pick (low && high) (get_or s (i - at) 0) (get_or d i 0)
    by_range false p high q = let h = leb-false at i p in paste_before d at s n i hd hs (omega arith)
    by_range true p true q =
        let l = leb-true at i p in
        let h = ltb-true i (at + n) q in
        let e : i ≡ at + (i - at) = omega arith in
        ap (λ (k : ℕ). get_or (paste d at s n) k 0) e ∙ paste_in d at s n (i - at) hd hs (omega arith)
    by_range true p false q =
        let h = ltb-false i (at + n) q in
        let e : i ≡ at + n + (i - (at + n)) = omega arith in
        ap (λ (k : ℕ). get_or (paste d at s n) k 0) e ∙ paste_after d at s n (i - (at + n)) hd hs ∙ ap (λ (k : ℕ). get_or d k 0) (sym e)

-- ---- a part replaced

-- it is a paste of the whole part
pub as_paste : (list : List ℕ) (at : ℕ) (part : List ℕ) (n : ℕ) → length part ≡ n → written_at list at part ≡ paste list at part n
as_paste list at part n e = rw (← e, take-length part)

pub length_written : (list : List ℕ) (at : ℕ) (part : List ℕ) → at + length part ≤ length list → length (written_at list at part) ≡ length list
length_written list at part h = ap length (as_paste list at part (length part) refl) ∙ length-paste list at part (length part) h (omega arith)

pub written_none : (list : List ℕ) (at : ℕ) → written_at list at [] ≡ list
written_none list at = rw (append-nil, add-zero) (take-append-drop at list)

-- two parts, one behind the other, at the front and from any index on
pub written_next : (list front part : List ℕ) → written_at (written_over list front) (length front) part ≡ written_over list (front ++ part)
written_next list front part =
    let rest = drop (length front) list in
    rw (take-append_seam front rest, drop-append-add front rest (length part), drop-drop (length part) (length front) list, length-append front part)

pub written_on : (list : List ℕ) (at : ℕ) (a b : List ℕ) → at + length a ≤ length list → written_at list at (a ++ b) ≡ written_at (written_at list at a) (at + length a) b
written_on list at a b h =
    let before = take at list in
    let rest = drop (at + length a) list in
    let head : length (before ++ a) ≡ at + length a = omega (arith, length-append before a, length-take-le at list (omega arith)) in
    let low = take_at (before ++ a) rest (at + length a) head in
    let far : at + length (a ++ b) ≡ at + length a + length b = omega (arith, length-append a b) in
    let high : drop (at + length a + length b) (before ++ a ++ rest) ≡ drop (at + length a + length b) list =
    sym (drop-drop (length b) (at + length a) (before ++ a ++ rest)) ∙ rw (drop_at (before ++ a) rest (at + length a) head) (drop-drop (length b) (at + length a) list) in
    rw (low, high, far, append_assoc before a b)

-- a part that was lent up to the end and is back with its front replaced
pub part_back : (list : List ℕ) (at : ℕ) (mid part : List ℕ) → mid ≡ written_over (take (length list - at) (drop at list)) part
    → take at list ++ (mid ++ drop (length list - at) (drop at list)) ≡ written_at list at part
part_back list at mid part e =
    let none : drop (length list - at) (drop at list) ≡ [] = drop_of_length-le (drop at list) {i = length list - at} (simp length-drop (omega arith)) in
    rw (none, append-nil mid, e, rest_whole list at, drop-drop (length part) at list) (sym (append_assoc (take at list) part (drop (at + length part) list)))
