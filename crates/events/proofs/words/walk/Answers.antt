-- `walk` meets its contract: the words walked over are alike, and those that are left decide.
-- Assumes nothing.
use Rattle.std.proofs.Common.{◌≡◌, ℕ, suc, ◌+◌, ◌-◌, ◌<◌, ◌≤◌, List, ◌∷◌, length, get_or, take, drop, ◌∙◌, arith, rules, eq-eqb, ne_eqb}
use Rattle.laws.proofs.Windows.{cut}
use Rattle.events.specs.Words.{alike}
use Rattle.events.proofs.OneWalk.{one_more, none_alike, at_the_end}
use Rattle.events.proofs.words.walk.Invariants.{left}
use Rattle.events.proofs.words.walk.Goals as goal

module _ (a : List ℕ) (i : ℕ) (b : List ℕ) (k n j : ℕ) (h : j < n) (ha : i + n ≤ length a) (hb : k + n ≤ length b) where
  next_word_lem :
      left a i b k n j
      ≡ alike (get_or a (i + j) 0 ∷ take (n - (j + 1)) (drop (i + (j + 1)) a)) (get_or b (k + j) 0 ∷ take (n - (j + 1)) (drop (k + (j + 1)) b))
  next_word_lem =
      let ea : i + (j + 1) ≡ i + j + 1 = omega arith in
      let eb : k + (j + 1) ≡ k + j + 1 = omega arith in
      rw (ea, eb, cut a (i + j) (n - j) (n - (j + 1)) (omega arith) (omega arith), cut b (k + j) (n - j) (n - (j + 1)) (omega arith) (omega arith))

  goes_on : get_or a (i + j) 0 ≡ get_or b (k + j) 0 → left a i b k n j ≡ suc (left a i b k n (j + 1))
  goes_on e = next_word_lem ∙ one_more _ _ _ _ (eq-eqb _ _ e)

  stops_here : (get_or a (i + j) 0 ≡ get_or b (k + j) 0 → ⊥) → left a i b k n j ≡ 0
  stops_here e = next_word_lem ∙ none_alike _ _ _ _ (ne_eqb _ _ e)

pub loop-walked-init : goal.loop-walked-init
loop-walked-init c =
    let a = c.args in
    let e : a.n - 0 ≡ a.n = omega arith in
    let f : a.i + 0 ≡ a.i = omega arith in
    let g : a.k + 0 ≡ a.k = omega arith in
    (search rules, rw (e, f, g) (omega arith))

pub loop-walked-preserved : goal.loop-walked-preserved
loop-walked-preserved c =
    let l = c.loop-walked in
    let a = c.args in
    let on = goes_on a.a.now a.i a.b.now a.k a.n l.walked (search rules) (search rules) (search rules) (c.if-a-i.true) in
    let all = l.invariant.1 in
    (search rules, omega (arith, all, on))

pub returns-else-a-i : goal.returns-else-a-i
returns-else-a-i c =
    let l = c.loop-walked in
    let a = c.args in
    let stop = stops_here a.a.now a.i a.b.now a.k a.n l.walked (search rules) (search rules) (search rules) (c.if-a-i.false) in
    let all = l.invariant.1 in
    omega (arith, all, stop)

pub returns-after-loop-walked : goal.returns-after-loop-walked
returns-after-loop-walked c =
    let l = c.loop-walked in
    let a = c.args in
    let e : a.n - l.walked ≡ 0 = omega arith in
    let all = l.invariant.1 in
    let end : left a.a.now a.i a.b.now a.k a.n l.walked ≡ 0 = rw e (at_the_end _) in
    omega (arith, all, end)
