-- Numbers that are read: the smallest, the largest, and one with zeros in front.
use Rattle.std.specs.Prelude.{◌≡◌, [], ◌∷◌, Some}
use Rattle.numbers.specs.Number.{number_in}

pub record NumberCases : Type 0 where
  -- `0`
  pub smallest : number_in (0x30 ∷ []) ≡ Some 0
  -- `4294967295`
  pub largest : number_in (0x34 ∷ 0x32 ∷ 0x39 ∷ 0x34 ∷ 0x39 ∷ 0x36 ∷ 0x37 ∷ 0x32 ∷ 0x39 ∷ 0x35 ∷ []) ≡ Some 4294967295
  -- `0000000007`
  pub zeros_in_front : number_in (0x30 ∷ 0x30 ∷ 0x30 ∷ 0x30 ∷ 0x30 ∷ 0x30 ∷ 0x30 ∷ 0x30 ∷ 0x30 ∷ 0x37 ∷ []) ≡ Some 7
