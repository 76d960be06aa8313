-- From what a call answers to its promise: the octets that the papers give to a control and to a function, and the bits that set a hold.
-- Assumes nothing.
use Prim.Native.Nat.{ℕ, ◌+◌, ◌*◌, ◌/◌, ◌%◌}
use mathlib.Core.Path.{◌≡◌, refl, ap, subst, ◌∙◌}
use mathlib.Core.Bool.{Bool, true, false}
use native.Mathlib.Omega.{arith}
use borrow.Author.Tests.{eqb-true, eqb-false, ltb-true, ltb-false, le-leb, lt-leb}
use lib.Dec.{ltb, eqb}
use Rattle.laws.specs.Pick.{pick}
use Rattle.laws.proofs.Lists.{every_below_lem}
use Rattle.parts.specs.Control.{control_of, is_given, ControlSaid}
use Rattle.parts.specs.Command.{code_of, function_of, function_in, is_word_of, FunctionSaid}
use Rattle.parts.specs.Holding.{paper, priority_hold, priority_select, hold_set, HoldingSaid}
use Rattle.parts.specs.declared.control.Control.{Control}
use Rattle.parts.specs.declared.command.Function.{Function}
use Rattle.parts.specs.declared.holding.Hold.{Hold}
use Rattle.parts.specs.declared.holding.Holding.{Holding}
use Rattle.parts.proofs.ByBits.{invalid_beyond}

-- one computed test over all octets, and none beyond
given : (c : ℕ) → is_given (control_of c) c ≡ true
unfolding control_of code_of pick
given c = by_size (ltb c 256) refl
  where
    by_size : (small : Bool) → ltb c 256 ≡ small → is_given (control_of c) c ≡ true
    by_size true e = every_below_lem 256 (λ n. is_given (control_of n) n) refl c (ltb-true c 256 e)
    by_size false e =
        let h = ltb-false c 256 e in
        rw (invalid_beyond c h, le-leb 0x80 c (omega arith), lt-leb c 0x9F (omega arith), le-leb 0xC0 c (omega arith), lt-leb c 0xDF (omega arith), le-leb 0x01 c (omega arith), lt-leb c 0x07 (omega arith), le-leb 0x41 c (omega arith), lt-leb c 0x48 (omega arith))

pub control_said : {octet : ℕ} {r : Control} → r ≡ control_of octet → ControlSaid octet r
control_said {octet} e = record { answer = e; on_paper = rw e (given octet) }

-- the same for function codes, in both octets of a word
function_given : (word : ℕ) → is_word_of (function_in word) word ≡ true
unfolding function_in function_of pick
function_given word = by_octets (eqb (word / 256) (word % 256)) refl
  where
    by_octets : (same : Bool) → eqb (word / 256) (word % 256) ≡ same → is_word_of (pick same (function_of (word % 256)) Function.NotListed) word ≡ true
    by_octets true e =
        let same = eqb-true (word / 256) (word % 256) e in
        let twice : word % 256 * 257 ≡ word = omega arith in
        subst (λ (w : ℕ). is_word_of (function_of (word % 256)) w ≡ true) twice
        (every_below_lem 256 (λ n. is_word_of (function_of n) (n * 257)) refl (word % 256) (omega arith))
    by_octets false e = rw e

pub function_said : {word : ℕ} {r : Function} → r ≡ function_in word → FunctionSaid word r
function_said {word} e = record { answer = e; on_paper = rw e (function_given word) }

low_two : (octet : ℕ) → octet % 4 ≡ 2 * (octet / 2 % 2) + octet / 1 % 2
low_two octet = let quarter : octet / 4 ≡ octet / 2 / 2 = omega arith in omega arith

pub bits_of_hold : (octet : ℕ) → paper (hold_set octet) ≡ pick (priority_hold octet) (octet % 4) 0
unfolding hold_set pick
bits_of_hold octet = by_bits (priority_hold octet) refl (priority_select octet) refl
  where
    by_bits : (hold : Bool) → eqb (octet / 2 % 2) 1 ≡ hold → (select : Bool) → eqb (octet / 1 % 2) 1 ≡ select
        → paper (pick hold (pick select Hold.Strong Hold.Plain) Hold.None) ≡ pick hold (octet % 4) 0
    by_bits true p true q = omega (arith, low_two octet, eqb-true (octet / 2 % 2) 1 p, eqb-true (octet / 1 % 2) 1 q)
    by_bits true p false q = omega (arith, low_two octet, eqb-true (octet / 2 % 2) 1 p, eqb-false (octet / 1 % 2) 1 q)
    by_bits false p select q = refl

pub holding_said : {holding r : Holding} {bits : ℕ} → paper holding.hold ≡ bits → r ≡ holding → HoldingSaid holding bits r
holding_said p e = record { answer = e; on_paper = ap (λ (h : Holding). paper h.hold) e ∙ p }
