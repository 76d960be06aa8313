-- `same_words` meets its contract: the runs are the same words where the walk went over all of them.
-- Assumes nothing.
use Rattle.std.proofs.Common.{◌≡◌, ℕ, ◌+◌, ◌≤◌, eqb, List, length, take, drop, sym, ap, ◌∙◌, arith, length-drop, length-take-le, rules}
use Rattle.events.specs.Words.{alike}
use Rattle.events.proofs.OneWalk.{one_walk}
use Rattle.events.proofs.words.same_words.Goals as goal

window : (list : List ℕ) (at n : ℕ) → at + n ≤ length list → length (take n (drop at list)) ≡ n
window list at n h = length-take-le n (drop at list) (simp length-drop (omega arith))

pub returns : goal.returns
returns c =
    let a = c.args in
    let xs = take a.n (drop a.i a.a.now) in
    let ys = take a.n (drop a.k a.b.now) in
    let x = window a.a.now a.i a.n (search rules) in
    let y = window a.b.now a.k a.n (search rules) in
    ap (λ (walked : ℕ). eqb walked a.n) c.walk.ensures ∙ ap (eqb (alike xs ys)) (sym x) ∙ sym (one_walk.tested xs ys (x ∙ sym y))
