-- `number::number_of` meets its contract: what is left to read spells, behind what was read, the number of all.
-- Assumes nothing.
use Prim.Native.Nat.{ℕ, ◌+◌, ◌-◌, ◌*◌, ◌≤◌, ◌<◌}
use mathlib.Core.Path.{◌≡◌, refl, sym, ◌∙◌}
use mathlib.Core.Bool.{true, false}
use mathlib.Core.List.{List, [], ◌∷◌}
use native.Mathlib.Numerals.{add-one}
use native.Mathlib.Omega.{arith}
use borrow.Author.Tests.{eqb-true, eqb-false, le-leb, lt-leb}
use lib.ListN.{length, drop, get_or, drop_of_length-le}
use lib.Seq.{drop-cons}
use Rattle.std.specs.Prelude.{Option, Some, None}
use Rattle.laws.specs.Pick.{pick}
use Rattle.laws.proofs.Pick.{either}
use Rattle.numbers.specs.Number.{is_digit, decimal_after, number_in}
use Rattle.numbers.proofs.number.number_of.Invariants.{Reading}
use Rattle.numbers.proofs.number.number_of.Goals as goal
use Rattle.numbers.proofs.number.number_of.Goals.{then-is_empty-via-then-is_empty, then-is_empty-via-else-is_empty+then-digits-gt-MOST_DIGITS}

-- what 32 bits no longer hold, no further digit mends
too_large : (before : ℕ) (octets : List ℕ) → 4294967295 < before → decimal_after before octets ≡ None
unfolding pick
too_large before [] h = rw (lt-leb _ 4294967295 h)
too_large before (octet ∷ octets) h = either (λ (x : Option ℕ). x ≡ None) (is_digit octet) (too_large (before * 10 + (octet - 48)) octets (omega arith)) refl

module _ {digits : List ℕ} {number i : ℕ} (here : Reading digits number i) where
  all_read : decimal_after number (drop i digits) ≡ number_in digits
  unfolding pick number_in
  all_read = rw (le-leb 1 (length digits) here.some, le-leb (length digits) 10 here.few) here.left

  -- the digits are used up
  ended : length digits ≤ i → Some number ≡ number_in digits
  unfolding pick
  ended h = rw (drop_of_length-le digits h, le-leb number 4294967295 here.small) at all_read

  module _ (more : i < length digits) where
    stopped : is_digit (get_or digits i 0) ≡ false → None ≡ number_in digits
    unfolding pick
    stopped e = rw (drop-cons digits i 0 more, e) at all_read

    read_on : is_digit (get_or digits i 0) ≡ true → decimal_after (number * 10 + (get_or digits i 0 - 48)) (drop (i + 1) digits) ≡ decimal_after 0 digits
    unfolding pick
    read_on d = rw add-one (rw (drop-cons digits i 0 more, d) at here.left)

    next : {value : ℕ} → value ≡ number * 10 + (get_or digits i 0 - 48) → value ≤ 4294967295 → is_digit (get_or digits i 0) ≡ true → Reading digits value (i + 1)
    next e s d = record { some = here.some; few = here.few; small = s; left = rw e (read_on d) }

    overflown : is_digit (get_or digits i 0) ≡ true → 4294967295 < number * 10 + (get_or digits i 0 - 48) → None ≡ number_in digits
    unfolding pick
    overflown d h = sym (too_large _ (drop (i + 1) digits) h) ∙ (rw add-one (rw (drop-cons digits i 0 more, d) at all_read))

pub returns-then-is_empty : goal.returns-then-is_empty
unfolding pick number_in
returns-then-is_empty c =
    elim c.then-is_empty.branch [
      | then-is_empty-via-then-is_empty w ↦
          let none : length c.args.digits.now ≡ 0 = eqb-true _ 0 (sym c.is_empty.ensures ∙ w.if-is_empty.true) in
          rw none
      | then-is_empty-via-else-is_empty+then-digits-gt-MOST_DIGITS w ↦
          let many : 10 < length c.args.digits.now = w.if-digits-gt-MOST_DIGITS.true in
          let one : 1 ≤ length c.args.digits.now = omega arith in
          rw (le-leb 1 _ one, lt-leb _ 10 many)
    ]

pub loop-digit-init : goal.loop-digit-init
loop-digit-init c =
    let some = eqb-false _ 0 (sym c.is_empty.ensures ∙ c.if-is_empty.false) in
    record { some = omega arith; few = omega arith; small = omega arith; left = refl }

pub returns-then-not-is_digit : goal.returns-then-not-is_digit
returns-then-not-is_digit c =
    stopped c.loop-digit.invariant c.loop-digit-test.true (sym c.is_digit.ensures ∙ c.if-not-is_digit.true)

pub returns-in_err-checked_mul : goal.returns-in_err-checked_mul
returns-in_err-checked_mul c =
    let large : c.loop-digit.number * 10 < 4294967296 → ⊥ = c.in_err-checked_mul.ensures in
    c.from_residual.ensures ∙ overflown c.loop-digit.invariant c.loop-digit-test.true (sym c.is_digit.ensures ∙ c.if-not-is_digit.false) (omega arith)

pub returns-in_err-number : goal.returns-in_err-number
returns-in_err-number c =
    let large : c.in_ok-checked_mul.field-0 + c.from.result < 4294967296 → ⊥ = c.in_err-number.ensures in
    let product : c.in_ok-checked_mul.field-0 ≡ c.loop-digit.number * 10 = c.in_ok-checked_mul.ensures.1 in
    c.from_residual-in_err-number.ensures
    ∙ overflown c.loop-digit.invariant c.loop-digit-test.true (sym c.is_digit.ensures ∙ c.if-not-is_digit.false) (omega arith)

pub loop-digit-preserved : goal.loop-digit-preserved
loop-digit-preserved c =
    let product = c.in_ok-checked_mul.ensures in
    let sum = c.in_ok-number.ensures in
    next c.loop-digit.invariant c.loop-digit-test.true (omega arith) (omega arith) (sym c.is_digit.ensures ∙ c.if-not-is_digit.false)

pub returns : goal.returns
returns c = ended c.loop-digit.invariant (omega arith)
