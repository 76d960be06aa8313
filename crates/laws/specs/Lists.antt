-- Lists as tables and as lent slices.
use Rattle.std.specs.Prelude.{ℕ, zero, suc, ◌+◌, Bool, true, false, ◌&&◌, ◌||◌, List, [], ◌∷◌, ◌++◌, eqb, length, take, drop}
use Rattle.laws.specs.Pick.{pick}

-- The list with its first elements replaced, the rest as it was.
abbrev pub written_over : {A : Type 0} → List A → List A → List A
written_over list front = front ++ drop (length front) list

-- The list with a part of it replaced, from an index on.
abbrev pub written_at : {A : Type 0} → List A → ℕ → List A → List A
written_at list at part = take at list ++ part ++ drop (at + length part) list

-- Two lists are the same, element for element.
abbrev pub same_list : List ℕ → List ℕ → Bool
same_list [] [] = true
same_list [] (y ∷ ys) = false
same_list (x ∷ xs) [] = false
same_list (x ∷ xs) (y ∷ ys) = eqb x y && same_list xs ys

-- The values of a rule at `count` numbers one after another, from `start`.
abbrev pub table_from : (ℕ → ℕ) → ℕ → ℕ → List ℕ
table_from rule start zero = []
table_from rule start (suc count) = rule start ∷ table_from rule (suc start) count

-- The value is one of the list: looked for from its start, unless it was found before.
abbrev pub one_of_or : Bool → List ℕ → ℕ → Bool
one_of_or found [] n = found
one_of_or found (m ∷ list) n = one_of_or (found || eqb n m) list n

abbrev pub one_of : List ℕ → ℕ → Bool
one_of list n = one_of_or false list n

-- How many elements of the list equal the value.
abbrev pub count_of : ℕ → List ℕ → ℕ
count_of n [] = 0
count_of n (m ∷ list) = pick (eqb n m) 1 0 + count_of n list
