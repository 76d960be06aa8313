-- What follows from an answer on paper: a number names one refusal, and an answer is known by its paper.
-- Assumes nothing.
use Prim.Native.Nat.{ℕ, zero, suc}
use mathlib.Core.Path.{◌≡◌, refl, ap, sym, ◌∙◌}
use mathlib.Core.List.{List}
use mathlib.Core.Logic.{◌↔◌}
use native.Mathlib.Omega.{arith}
use Rattle.std.specs.Prelude.{Result, Ok, Err, IsErr, IsErrAnd, ⊤}
use Rattle.std.proofs.lemmas.Result.{err_from_is_err_and}
use Rattle.std.proofs.Math.Option.{Option, some, none}
use Rattle.laws.specs.Rows.{Row, first, Given, unless_refused, Paper, refused_with, tells, refused_or}
use Rattle.laws.proofs.Rows.{first_is_exact, EachNumber, first_among}
use Rattle.refusals.specs.Refusal.{number, named, on_paper, refusal_in}
use Rattle.refusals.specs.declared.refusal.Refusal.{Refusal}
use Rattle.refusals.specs.declared.refusal.Refusal.TheVariants.{NoSuchPort, NotSelected, AlreadySelected, NotOurAddress, ModeCannotChange, Busy, TransferOpenOrNot, Malformed, OutsideItsLimits, SliceTooShort, UnsoundState, NoTrailer, WrongMark, WrongDistance, NoDataField, NotWhole, WrongCount, WrongFlags, WrongCopy, WrongSets, WrongSet, OutsideTheDrive, OutOfSequence, NotPadded, WrongCrc, UnlikeCopy0, BehindTheEnd}

pub of_its_number : (r : Refusal) → named (number r) ≡ r
of_its_number NoSuchPort = refl
of_its_number NotSelected = refl
of_its_number AlreadySelected = refl
of_its_number NotOurAddress = refl
of_its_number ModeCannotChange = refl
of_its_number Busy = refl
of_its_number TransferOpenOrNot = refl
of_its_number Malformed = refl
of_its_number OutsideItsLimits = refl
of_its_number SliceTooShort = refl
of_its_number UnsoundState = refl
of_its_number NoTrailer = refl
of_its_number WrongMark = refl
of_its_number WrongDistance = refl
of_its_number NoDataField = refl
of_its_number NotWhole = refl
of_its_number WrongCount = refl
of_its_number WrongFlags = refl
of_its_number WrongCopy = refl
of_its_number WrongSets = refl
of_its_number WrongSet = refl
of_its_number OutsideTheDrive = refl
of_its_number OutOfSequence = refl
of_its_number NotPadded = refl
of_its_number WrongCrc = refl
of_its_number UnlikeCopy0 = refl
of_its_number BehindTheEnd = refl

pub number_only : {r s : Refusal} → number r ≡ number s → r ≡ s
number_only {r} {s} e = sym (of_its_number r) ∙ ap named e ∙ of_its_number s

-- the number of the first row that holds, if each row has the number of a refusal: for a table that is written out, `refl` for each
pub number_of_first : (rows : List Row) → EachNumber (λ n. number (named n) ≡ n) rows → (n : ℕ) → first rows ≡ suc n → number (named (suc n)) ≡ suc n
number_of_first rows each n e = first_among (λ n. number (named n) ≡ n) rows each n e

-- no refusal has the number 0
pub number_is_not_0 : (r : Refusal) → number r ≡ 0 → ⊥
number_is_not_0 r e = by_name r e
  where
    by_name : (r : Refusal) → number r ≡ 0 → ⊥
    by_name NoSuchPort e = absurd (omega (arith, e))
    by_name NotSelected e = absurd (omega (arith, e))
    by_name AlreadySelected e = absurd (omega (arith, e))
    by_name NotOurAddress e = absurd (omega (arith, e))
    by_name ModeCannotChange e = absurd (omega (arith, e))
    by_name Busy e = absurd (omega (arith, e))
    by_name TransferOpenOrNot e = absurd (omega (arith, e))
    by_name Malformed e = absurd (omega (arith, e))
    by_name OutsideItsLimits e = absurd (omega (arith, e))
    by_name SliceTooShort e = absurd (omega (arith, e))
    by_name UnsoundState e = absurd (omega (arith, e))
    by_name NoTrailer e = absurd (omega (arith, e))
    by_name WrongMark e = absurd (omega (arith, e))
    by_name WrongDistance e = absurd (omega (arith, e))
    by_name NoDataField e = absurd (omega (arith, e))
    by_name NotWhole e = absurd (omega (arith, e))
    by_name WrongCount e = absurd (omega (arith, e))
    by_name WrongFlags e = absurd (omega (arith, e))
    by_name WrongCopy e = absurd (omega (arith, e))
    by_name WrongSets e = absurd (omega (arith, e))
    by_name WrongSet e = absurd (omega (arith, e))
    by_name OutsideTheDrive e = absurd (omega (arith, e))
    by_name OutOfSequence e = absurd (omega (arith, e))
    by_name NotPadded e = absurd (omega (arith, e))
    by_name WrongCrc e = absurd (omega (arith, e))
    by_name UnlikeCopy0 e = absurd (omega (arith, e))
    by_name BehindTheEnd e = absurd (omega (arith, e))

-- ---- an answer on paper has the number of a refusal, or a value

abbrev pub number_told : Option ℕ → ℕ
number_told none = 0
number_told (some n) = n

abbrev pub value_told : {A : Type 0} → A → Option A → A
value_told other none = other
value_told other (some value) = value

pub same_number : {A : Type 0} {p q : Paper A} → p ≡ q → number_told p.refusal ≡ number_told q.refusal
same_number {A} e = ap (λ (p : Paper A). number_told p.refusal) e

pub same_value : {A : Type 0} {p q : Paper A} (other : A) → p ≡ q → value_told other p.value ≡ value_told other q.value
same_value {A} other e = ap (λ (p : Paper A). value_told other p.value) e

-- an answer that is a value: nothing was refused, and it is the value
pub value_given : {A : Type 0} (rows : List Row) {answer value : A} → on_paper (Ok answer) ≡ refused_or rows value → (first rows ≡ 0) × (answer ≡ value)
value_given {A} rows {answer} {value} e = by_refusal (first rows) refl e
  where
    by_refusal : (n : ℕ) → first rows ≡ n → tells answer ≡ unless_refused n (refused_with n) (tells value) → (first rows ≡ 0) × (answer ≡ value)
    by_refusal zero f e = (f, same_value answer e)
    by_refusal (suc n) f e = absurd (let p = same_number e in omega (arith, p))

-- an answer that is a refusal: its number is that of the first row that holds
pub refusal_given : {A : Type 0} (rows : List Row) (refusal : Refusal) (value : A) → on_paper (Err refusal) ≡ refused_or rows value → first rows ≡ number refusal
refusal_given {A} rows refusal value e = by_refusal (first rows) e
  where
    by_refusal : (n : ℕ) → refused_with {A = A} (number refusal) ≡ unless_refused n (refused_with n) (tells value) → n ≡ number refusal
    by_refusal zero e = sym (same_number e)
    by_refusal (suc n) e = sym (same_number e)

-- what a refusal leaves as it was
pub left_as_it_was : {A : Type 0} (refusal : Refusal) {n : ℕ} {old : A} (new : A) → n ≡ number refusal → unless_refused n old new ≡ old
left_as_it_was refusal {n = zero} new e = absurd (number_is_not_0 refusal (sym e))
left_as_it_was refusal {n = suc n} new e = refl

-- the number that an answer refuses with is that of the first row that holds
pub number_given : {A : Type 0} (rows : List Row) (value : A) (answer : Result A Refusal) → on_paper answer ≡ refused_or rows value → refusal_in answer ≡ first rows
number_given rows value (Ok given) e = sym (value_given rows e).0
number_given rows value (Err refusal) e = sym (refusal_given rows refusal value e)

pub exactly_on_paper : {A : Type 0} (rows : List Row) (value : A) (answer : Result A Refusal) → on_paper answer ≡ refused_or rows value
    → (n : ℕ) → refusal_in answer ≡ suc n ↔ Given (suc n) rows
exactly_on_paper rows value answer e n = rw (number_given rows value answer e) (first_is_exact n rows)

-- what an answer says that is computed as a value: the refusal that its number names, or what is given where no row holds
pub seen_by_name : {A B : Type 0} (seen : A → Result B Refusal) (refused : Refusal → A) (new : A) (value : B) (rows : List Row)
    → EachNumber (λ n. number (named n) ≡ n) rows → ((refusal : Refusal) → seen (refused refusal) ≡ Err refusal) → seen new ≡ Ok value
    → on_paper (seen (unless_refused (first rows) (refused (named (first rows))) new)) ≡ refused_or rows value
seen_by_name {A} {B} seen refused new value rows each told given = by_refusal (first rows) refl
  where
    by_refusal : (n : ℕ) → first rows ≡ n → on_paper (seen (unless_refused n (refused (named n)) new)) ≡ unless_refused n (refused_with n) (tells value)
    by_refusal zero f = ap on_paper given
    by_refusal (suc n) f = ap on_paper (told (named (suc n))) ∙ ap refused_with (number_of_first rows each n f)

-- two answers that are one on paper are one
pub paper_only : {A : Type 0} {r s : Result A Refusal} → on_paper r ≡ on_paper s → r ≡ s
paper_only {r = Ok x} {s = Ok y} e = ap Ok (same_value x e)
paper_only {r = Err x} {s = Err y} e = ap Err (number_only (same_number e))
paper_only {r = Ok x} {s = Err y} e = absurd (number_is_not_0 y (sym (same_number e)))
paper_only {r = Err x} {s = Ok y} e = absurd (number_is_not_0 x (same_number e))

pub answer_only : {A : Type 0} {r s : Result A Refusal} {p : Paper A} → on_paper r ≡ p → on_paper s ≡ p → r ≡ s
answer_only p q = paper_only (p ∙ sym q)

-- ---- a definition that names the refusal of a row's number

-- a refusal with that number is the one that is named
pub told_by_name : {A : Type 0} (told : Refusal → A) (refusal : Refusal) {n : ℕ} (new : A) → number refusal ≡ n → told refusal ≡ unless_refused n (told (named n)) new
told_by_name told refusal new e = rw (← e) (ap told (sym (of_its_number refusal)) ∙ sym (left_as_it_was refusal new refl))

-- the number that is reported is that row's, if each row's number is a refusal's
pub reported_by_name : {A : Type 0} (report : A → ℕ) (refused : Refusal → A) → ((refusal : Refusal) → report (refused refusal) ≡ number refusal)
    → (n : ℕ) → ((k : ℕ) → n ≡ suc k → number (named n) ≡ n) → (accepted : A) → report accepted ≡ 0 → report (unless_refused n (refused (named n)) accepted) ≡ n
reported_by_name report refused told zero named_right accepted e = e
reported_by_name report refused told (suc n) named_right accepted e = told (named (suc n)) ∙ named_right n refl

-- ---- the exit of a `?`: the error is handed on as it is

pub passed_on : {A E : Type 0} {r : Result A E} {error : E} → IsErr r × IsErrAnd r (λ carried. carried ≡ error) → r ≡ Err error
passed_on {r = r} e = let p = err_from_is_err_and r e.1 in p.1 ∙ ap Err p.2

-- ---- a call that gives no value: its number is its whole answer

pub done : {r : Result ⊤ Refusal} → refusal_in r ≡ 0 → r ≡ Ok tt
done {r = Ok x} e = refl
done {r = Err refusal} e = absurd (number_is_not_0 refusal e)

pub done_only : {r s : Result ⊤ Refusal} {n : ℕ} → refusal_in r ≡ n → refusal_in s ≡ n → r ≡ s
done_only {r = Ok x} {s = Ok y} p q = refl
done_only {r = Err x} {s = Err y} p q = ap Err (number_only (p ∙ sym q))
done_only {r = Ok x} {s = Err y} p q = absurd (number_is_not_0 y (q ∙ sym p))
done_only {r = Err x} {s = Ok y} p q = absurd (number_is_not_0 x (p ∙ sym q))

pub done_exactly : (rows : List Row) (r : Result ⊤ Refusal) → refusal_in r ≡ first rows → (n : ℕ) → refusal_in r ≡ suc n ↔ Given (suc n) rows
done_exactly rows r e n = rw e (first_is_exact n rows)
