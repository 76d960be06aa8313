-- Wrong answers of `number_of`: what a careless programmer would read, and its promise does not allow.
use Rattle.std.specs.Prelude.{◌≡◌, [], ◌∷◌, Some}
use Rattle.numbers.specs.Number.{number_in}

pub record WrongAnswers : Type 0 where
  -- `4294967296` does not go round to 0.
  pub gone_round : Some 0 ≡ number_in (0x34 ∷ 0x32 ∷ 0x39 ∷ 0x34 ∷ 0x39 ∷ 0x36 ∷ 0x37 ∷ 0x32 ∷ 0x39 ∷ 0x36 ∷ []) → ⊥
  -- No digit at all is no number.
  pub nothing_as_zero : Some 0 ≡ number_in [] → ⊥
  -- `+7` has a sign, which is no digit.
  pub sign_skipped : Some 7 ≡ number_in (0x2B ∷ 0x37 ∷ []) → ⊥
  -- `7a` ends in a letter.
  pub letter_left_out : Some 7 ≡ number_in (0x37 ∷ 0x61 ∷ []) → ⊥
  -- `00000000007` has eleven digits.
  pub eleventh_digit_taken : Some 7 ≡ number_in (0x30 ∷ 0x30 ∷ 0x30 ∷ 0x30 ∷ 0x30 ∷ 0x30 ∷ 0x30 ∷ 0x30 ∷ 0x30 ∷ 0x30 ∷ 0x37 ∷ []) → ⊥
  -- `21` is read from its front.
  pub last_digit_first : Some 12 ≡ number_in (0x32 ∷ 0x31 ∷ []) → ⊥
