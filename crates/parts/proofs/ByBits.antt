-- Controls told by their bits, as the ranges tell them: computed tests over all octets, and none beyond.
-- Assumes nothing.
use Prim.Native.Nat.{ℕ, ◌/◌, ◌%◌, ◌≤◌}
use mathlib.Core.Path.{◌≡◌, refl, sym, ◌∙◌}
use mathlib.Core.Bool.{Bool, true, false, not, ◌&&◌, ◌||◌, and-false, true≢false}
use native.Mathlib.Omega.{arith}
use borrow.Author.Tests.{ltb-true, ltb-false, le-ltb, ne_eqb, leb-false, not-true}
use lib.Dec.{ltb, leb, eqb}
use mathlib.Core.List.{[], ◌∷◌}
use Rattle.laws.specs.Pick.{pick}
use Rattle.laws.specs.Lists.{one_of}
use Rattle.laws.proofs.Tests.{and_l, and_r}
use Rattle.laws.proofs.Lists.{every_below, every_below_lem}
use Rattle.parts.specs.Control.{control_of, is_write, is_read, takes_words, gives_words, is_data, is_at_target}
use Rattle.parts.specs.Command.{code_of, parameter_words}
use Rattle.parts.specs.declared.control.Control.{Control}
use Rattle.parts.specs.declared.control.Control.TheVariants.{Command, Response, Invalid}

agree : Bool → Bool → Bool
agree true b = b
agree false b = not b

agreed : (a b : Bool) → agree a b ≡ true → a ≡ b
unfolding agree
agreed true true e = refl
agreed true false e = absurd (true≢false (sym e))
agreed false true e = absurd (true≢false (sym e))
agreed false false e = refl

pub invalid_beyond : (c : ℕ) → 256 ≤ c → control_of c ≡ Invalid
unfolding control_of pick
invalid_beyond c h =
    rw (le-ltb c 0x80 (omega arith), le-ltb c 0x84 (omega arith), le-ltb c 0x90 (omega arith), ne_eqb c 0x90 (λ e. omega arith), le-ltb c 0x94 (omega arith), le-ltb c 0xA0 (omega arith), le-ltb c 0xC0 (omega arith), ne_eqb c 0xD0 (λ e. omega arith), le-ltb c 0xE0 (omega arith))

by_bits : (test : Control → Bool) (bits : ℕ → Bool) → every_below 256 (λ c. agree (test (control_of c)) (bits c)) ≡ true → test Invalid ≡ false
    → ((c : ℕ) → 256 ≤ c → bits c ≡ false) → (c : ℕ) → test (control_of c) ≡ bits c
by_bits test bits octets invalid beyond c = by_size (ltb c 256) refl
  where
    by_size : (small : Bool) → ltb c 256 ≡ small → test (control_of c) ≡ bits c
    by_size true e = agreed (test (control_of c)) (bits c) (every_below_lem 256 (λ n. agree (test (control_of n)) (bits n)) octets c (ltb-true c 256 e))
    by_size false e = let h = ltb-false c 256 e in rw (invalid_beyond c h, beyond c h, invalid)

pub writes_by_bits : (c : ℕ) → is_write (control_of c) ≡ (eqb (c / 32) 4 && not (eqb (c / 4 % 4) 0))
unfolding control_of code_of pick agree
writes_by_bits = by_bits is_write (λ c. eqb (c / 32) 4 && not (eqb (c / 4 % 4) 0)) refl refl (λ c h. rw (ne_eqb (c / 32) 4 (λ e. omega arith)))

pub reads_by_bits : (c : ℕ) → is_read (control_of c) ≡ (eqb (c / 32) 6 && not (eqb c 0xD0))
unfolding control_of code_of pick agree
reads_by_bits = by_bits is_read (λ c. eqb (c / 32) 6 && not (eqb c 0xD0)) refl refl (λ c h. rw (ne_eqb (c / 32) 6 (λ e. omega arith)))

-- ---- data transfers, commands and responses

-- what takes words and has bit 7 is a write, what gives words and has it a read
pub writes_take : (c : ℕ) → is_write (control_of c) ≡ (takes_words (control_of c) && is_data c)
unfolding control_of code_of pick agree
writes_take = by_bits is_write (λ c. takes_words (control_of c) && is_data c) refl refl (λ c h. rw (invalid_beyond c h))

pub reads_give : (c : ℕ) → is_read (control_of c) ≡ (gives_words (control_of c) && is_data c)
unfolding control_of code_of pick agree
reads_give = by_bits is_read (λ c. gives_words (control_of c) && is_data c) refl refl (λ c h. rw (invalid_beyond c h))

pub write_is_data : (c : ℕ) → is_write (control_of c) ≡ true → is_data c ≡ true
write_is_data c h = and_r (takes_words (control_of c)) (is_data c) (sym (writes_take c) ∙ h)

pub read_is_data : (c : ℕ) → is_read (control_of c) ≡ true → is_data c ≡ true
read_is_data c h = and_r (gives_words (control_of c)) (is_data c) (sym (reads_give c) ∙ h)

low_by : (c : ℕ) (test : Bool) → test ≡ true → (test && is_data c) ≡ false → is_data c ≡ false
low_by c test t e = rw t at e

pub command_low : (c : ℕ) → control_of c ≡ Command → is_data c ≡ false
command_low c q = low_by c (takes_words (control_of c)) (rw q) (sym (writes_take c) ∙ rw q)

pub response_low : (c : ℕ) → control_of c ≡ Response → is_data c ≡ false
response_low c q = low_by c (gives_words (control_of c)) (rw q) (sym (reads_give c) ∙ rw q)

-- what gives words and is not of data is a response
pub low_responds : (c : ℕ) → is_data c ≡ false → gives_words (control_of c) ≡ true → control_of c ≡ Response
low_responds c low g = by_control_lem (control_of c) g (reads_give c ∙ rw low (and-false (gives_words (control_of c))))
  where
    by_control_lem : (k : Control) → gives_words k ≡ true → is_read k ≡ false → k ≡ Response
    by_control_lem Control.Response g r = refl
    by_control_lem Control.Read g r = absurd (true≢false r)
    by_control_lem Control.Write g r = absurd (true≢false (sym g))
    by_control_lem Control.Command g r = absurd (true≢false (sym g))
    by_control_lem Control.StepHead g r = absurd (true≢false (sym g))
    by_control_lem Control.Reserved g r = absurd (true≢false (sym g))
    by_control_lem Control.Unsupported g r = absurd (true≢false (sym g))
    by_control_lem Control.Invalid g r = absurd (true≢false (sym g))

-- of the codes below 80 those open that have words to come, and none is at the target
pub codes_open : (c : ℕ) → is_data c ≡ false → (takes_words (control_of c) || gives_words (control_of c)) ≡ not (eqb (parameter_words c) 0)
unfolding control_of code_of parameter_words pick agree
codes_open c low =
    let test : ℕ → Bool = λ n. agree (takes_words (control_of n) || gives_words (control_of n)) (not (eqb (parameter_words n) 0)) in
    agreed (takes_words (control_of c) || gives_words (control_of c)) (not (eqb (parameter_words c) 0)) (every_below_lem 128 test refl c (leb-false 0x80 c low))

pub codes_in_place : (c : ℕ) → is_data c ≡ false → (takes_words (control_of c) || gives_words (control_of c)) ≡ true → is_at_target c ≡ false
unfolding control_of code_of pick
codes_in_place c low opens =
    let test : ℕ → Bool = λ n. not (takes_words (control_of n) || gives_words (control_of n)) || not (is_at_target n) in
    not-true (is_at_target c) (rw opens at (every_below_lem 128 test refl c (leb-false 0x80 c low)))

-- what the upper two bits say of control 0 and of a control that opens: bit 7 tells data from codes, and bit 6 words to the host from words of the host
pub record UpperBits (c : ℕ) : Type 0 where
  pub write : eqb (c / 64) 2 ≡ is_write (control_of c)
  pub read : eqb (c / 64) 3 ≡ is_read (control_of c)
  pub command : (eqb (c / 64) 0 && not (eqb c 0)) ≡ (takes_words (control_of c) && not (is_data c))
  pub response : eqb (c / 64) 1 ≡ (gives_words (control_of c) && not (is_data c))
  pub one : not (eqb c 0) ≡ (takes_words (control_of c) || gives_words (control_of c))

bits_agree : ℕ → Bool
bits_agree c =
    agree (eqb (c / 64) 2) (is_write (control_of c))
    && agree (eqb (c / 64) 3) (is_read (control_of c))
    && agree (eqb (c / 64) 0 && not (eqb c 0)) (takes_words (control_of c) && not (is_data c))
    && agree (eqb (c / 64) 1) (gives_words (control_of c) && not (is_data c))
    && agree (not (eqb c 0)) (takes_words (control_of c) || gives_words (control_of c))

all_agree : (c : ℕ) → (eqb c 0 || (takes_words (control_of c) || gives_words (control_of c))) ≡ true → bits_agree c ≡ true
unfolding bits_agree control_of code_of pick agree
all_agree c opens = by_size (ltb c 256) refl
  where
    by_size : (small : Bool) → ltb c 256 ≡ small → bits_agree c ≡ true
    by_size true e =
        let test : ℕ → Bool = λ n. not (eqb n 0 || (takes_words (control_of n) || gives_words (control_of n))) || bits_agree n in
        rw opens at (every_below_lem 256 test refl c (ltb-true c 256 e))
    by_size false e =
        let h = ltb-false c 256 e in
        absurd (true≢false (sym opens ∙ rw (ne_eqb c 0 (λ z. omega arith), invalid_beyond c h)))

pub upper_bits : (c : ℕ) → (eqb c 0 || (takes_words (control_of c) || gives_words (control_of c))) ≡ true → UpperBits c
unfolding bits_agree
upper_bits c opens =
    let all = all_agree c opens in
    record {
      write = agreed _ _ (search (and_l, and_r) depth 9);
      read = agreed _ _ (search (and_l, and_r) depth 9);
      command = agreed _ _ (search (and_l, and_r) depth 9);
      response = agreed _ _ (search (and_l, and_r) depth 9);
      one = agreed _ _ (search (and_l, and_r) depth 9);
    }

-- a command has four words at most
pub commands_few : (c : ℕ) → is_data c ≡ false → takes_words (control_of c) ≡ true → leb (parameter_words c) 4 ≡ true
unfolding control_of code_of parameter_words pick
commands_few c low takes =
    let test : ℕ → Bool = λ n. not (takes_words (control_of n)) || leb (parameter_words n) 4 in
    rw takes at (every_below_lem 128 test refl c (leb-false 0x80 c low))

-- those of one word
pub single_commands : (c : ℕ) → is_data c ≡ false → takes_words (control_of c) ≡ true → eqb (parameter_words c) 1 ≡ true → one_of (0x01 ∷ 0x05 ∷ 0x06 ∷ []) c ≡ true
unfolding control_of code_of parameter_words pick
single_commands c low takes one =
    let test : ℕ → Bool = λ n. not (takes_words (control_of n) && eqb (parameter_words n) 1) || one_of (0x01 ∷ 0x05 ∷ 0x06 ∷ []) n in
    rw (takes, one) at (every_below_lem 128 test refl c (leb-false 0x80 c low))
