-- "the offset of the first offence": which number at which offset a decoding reports, by the tests in their order. `proofs/ExactOffence`
-- proves it.
use Rattle.std.specs.Prelude.{ℕ, ◌≤◌, ◌≡◌, true, false, List, [], ◌∷◌, Result, ◌↔◌}
use Rattle.parts.specs.declared.setup.Setup.{Setup}
use Rattle.defects.specs.Offence.{Test, offence_at, first_of, offence_in}
use Rattle.defects.specs.Decoding.{decode_tests, DecodedMap}
use Rattle.defects.specs.Sectors.{read_tests, ReadMap}
use Rattle.defects.specs.declared.decoding.MapRead.{MapRead}
use Rattle.defects.specs.declared.offence.Offence.{Offence}

-- Number n at this offset: a test of that number and offset holds, and no test before it does.
pub data GivenAt (n offset : ℕ) : List Test → Type 0 where
  here : {test : Test} {tests : List Test} → test.number ≡ n → test.offset ≡ offset → test.holds ≡ true → GivenAt n offset (test ∷ tests)
  later : {test : Test} {tests : List Test} → test.holds ≡ false → GivenAt n offset tests → GivenAt n offset (test ∷ tests)

-- Each of the tests.
abbrev pub Each : (Test → Type 0) → List Test → Type 0
Each P [] = Unit
Each P (test ∷ tests) = P test × Each P tests

-- Of the tests that hold none has a lower offset, and none at this offset has a lower number.
abbrev pub Least : ℕ → ℕ → List Test → Type 0
Least n offset tests = Each (λ test. test.holds ≡ true → (offset ≤ test.offset) × (test.offset ≡ offset → n ≤ test.number)) tests

pub record ExactOffence : Type 0 where
  -- The first offence of any tests is the one that is given.
  pub first_offence_is_exact : (tests : List Test) (n offset : ℕ) → first_of tests ≡ offence_at n offset ↔ GivenAt n offset tests
  -- `decode_map` refuses with a number and an offset exactly when they are given.
  pub decode_map_exactly : (s : Setup) (octets before after : List ℕ) (r : Result MapRead Offence) (n offset : ℕ) → DecodedMap s octets before after r
      → offence_in r ≡ offence_at n offset ↔ GivenAt n offset (decode_tests s octets before)
  -- So does `read_map`.
  pub read_map_exactly : (s : Setup) (sectors before after : List ℕ) (r : Result MapRead Offence) (n offset : ℕ) → ReadMap s sectors before after r
      → offence_in r ≡ offence_at n offset ↔ GivenAt n offset (read_tests s sectors before)
  -- "The first offence is the one with the least offset, and at one offset the one with the lower number."
  pub decode_map_least : (s : Setup) (octets lent : List ℕ) (n offset : ℕ)
      → GivenAt n offset (decode_tests s octets lent) → Least n offset (decode_tests s octets lent)
  -- The same of a map that is read off the last cylinder.
  pub read_map_least : (s : Setup) (sectors lent : List ℕ) (n offset : ℕ)
      → GivenAt n offset (read_tests s sectors lent) → Least n offset (read_tests s sectors lent)
