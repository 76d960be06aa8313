-- A walk over two runs of one length: it stops at the first difference, and the runs are the same words exactly when all are alike.
-- Assumes nothing.
use Rattle.std.proofs.Common.{◌≡◌, ℕ, zero, suc, Bool, true, false, ◌&&◌, eqb, List, [], ◌∷◌, length, get_or, take, drop, sym, refl, ap, ◌∙◌, subst, ap₂, arith, eq-eqb, ne_eqb, eqb-true}
use borrow.Author.Tests.{eqb-false}
use lib.Seq.{take-length}
use Rattle.laws.specs.Lists.{same_list}
use Rattle.laws.specs.Pick.{pick}
use Rattle.laws.proofs.Differ.{told_apart}
use Rattle.laws.proofs.Tests.{same_equation}
use Rattle.events.specs.Words.{alike, StopsAt, OneWalk}

-- of two runs that begin with the same word one more is alike, of two that do not none is
pub one_more : (x y : ℕ) (xs ys : List ℕ) → eqb x y ≡ true → alike (x ∷ xs) (y ∷ ys) ≡ suc (alike xs ys)
unfolding alike pick
one_more x y xs ys e = rw e

pub none_alike : (x y : ℕ) (xs ys : List ℕ) → eqb x y ≡ false → alike (x ∷ xs) (y ∷ ys) ≡ 0
unfolding alike pick
none_alike x y xs ys e = rw e

pub at_the_end : (ys : List ℕ) → alike [] ys ≡ 0
unfolding alike
at_the_end ys = refl

-- ---- where it stops

-- behind a word that is the same, it is that of the rest, one further on
one_on : (x y : ℕ) (xs ys : List ℕ) (n : ℕ) → x ≡ y → StopsAt xs ys n → StopsAt (x ∷ xs) (y ∷ ys) (suc n)
one_on x y xs ys n e d = record { within = omega (arith, d.within); before = ap₂ ◌∷◌ e d.before; there = λ h. d.there (omega arith) }

one_back : (x y : ℕ) (xs ys : List ℕ) (n : ℕ) → StopsAt (x ∷ xs) (y ∷ ys) (suc n) → StopsAt xs ys n
one_back x y xs ys n d = record { within = omega (arith, d.within); before = ap (drop 1) d.before; there = λ h. d.there (omega arith) }

stops_there : (xs ys : List ℕ) → length xs ≡ length ys → StopsAt xs ys (alike xs ys)
stops_there [] [] e = rw (at_the_end []) (record { within = omega arith; before = refl; there = λ h. absurd (omega arith) })
stops_there [] (y ∷ ys) e = absurd (omega arith)
stops_there (x ∷ xs) [] e = absurd (omega arith)
stops_there (x ∷ xs) (y ∷ ys) e = by_word (eqb x y) refl (stops_there xs ys (omega arith))
  where
    by_word : (same : Bool) → eqb x y ≡ same → StopsAt xs ys (alike xs ys) → StopsAt (x ∷ xs) (y ∷ ys) (alike (x ∷ xs) (y ∷ ys))
    by_word true p rest = rw (one_more x y xs ys p) (one_on x y xs ys (alike xs ys) (eqb-true x y p) rest)
    by_word false p rest = rw (none_alike x y xs ys p) (record { within = omega arith; before = refl; there = λ h. eqb-false x y p })

nowhere_else : (xs ys : List ℕ) → length xs ≡ length ys → (n : ℕ) → StopsAt xs ys n → n ≡ alike xs ys
nowhere_else [] [] e n d = omega (arith, d.within, at_the_end [])
nowhere_else [] (y ∷ ys) e n d = absurd (omega arith)
nowhere_else (x ∷ xs) [] e n d = absurd (omega arith)
nowhere_else (x ∷ xs) (y ∷ ys) e zero d = sym (none_alike x y xs ys (ne_eqb x y (d.there (omega arith))))
nowhere_else (x ∷ xs) (y ∷ ys) e (suc n) d =
    let first = ap (λ (list : List ℕ). get_or list 0 0) d.before in
    ap suc (nowhere_else xs ys (omega arith) n (one_back x y xs ys n d)) ∙ sym (one_more x y xs ys (eq-eqb x y first))

-- ---- the same words

all_of_them : (xs : List ℕ) → alike xs xs ≡ length xs
all_of_them [] = at_the_end []
all_of_them (x ∷ xs) = one_more x x xs xs (eq-eqb x x refl) ∙ ap suc (all_of_them xs)

same_words_lem : (xs ys : List ℕ) → length xs ≡ length ys → alike xs ys ≡ length xs → xs ≡ ys
same_words_lem xs ys e h =
    sym (take-length xs) ∙ ap (λ (n : ℕ). take n xs) (sym h) ∙ (stops_there xs ys e).before ∙ ap (λ (n : ℕ). take n ys) (h ∙ e) ∙ take-length ys

word_for_word : (xs ys : List ℕ) → length xs ≡ length ys → same_list xs ys ≡ eqb (alike xs ys) (length xs)
word_for_word [] [] e = sym (eq-eqb (alike [] []) 0 (at_the_end []))
word_for_word [] (y ∷ ys) e = absurd (omega arith)
word_for_word (x ∷ xs) [] e = absurd (omega arith)
word_for_word (x ∷ xs) (y ∷ ys) e = by_word (eqb x y) refl (word_for_word xs ys (omega arith))
  where
    by_word : (same : Bool) → eqb x y ≡ same → same_list xs ys ≡ eqb (alike xs ys) (length xs)
        → (same && same_list xs ys) ≡ eqb (alike (x ∷ xs) (y ∷ ys)) (length (x ∷ xs))
    by_word true p rest =
        rest
        ∙ same_equation (alike xs ys) (length xs) (suc (alike xs ys)) (suc (length xs)) (ap suc) (λ q. omega arith)
        ∙ ap (λ (n : ℕ). eqb n (length (x ∷ xs))) (sym (one_more x y xs ys p))
    by_word false p rest = rw (none_alike x y xs ys p) (sym (ne_eqb 0 (length (x ∷ xs)) (λ q. omega arith)))

pub one_walk : OneWalk
unfolding alike pick
one_walk =
    record {
      stops = λ xs ys e n. (nowhere_else xs ys e n, λ q. subst (StopsAt xs ys) (sym q) (stops_there xs ys e));
      same = λ xs ys e. (λ q. subst (λ (zs : List ℕ). alike xs zs ≡ length xs) q (all_of_them xs), same_words_lem xs ys e);
      tested = word_for_word;
      went_on = told_apart 2 1 refl;
      saw_none = told_apart 3 1 refl;
    }
