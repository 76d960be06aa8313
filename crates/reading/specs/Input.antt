-- What can be said of a program's input and output: no contract says what C reads or writes.
use Rattle.std.specs.Prelude.{ℕ, ◌≤◌, List, Result, length, take}
use Rattle.std.specs.Io.KnownBytes.{Consumes}
use Rattle.std.specs.declared.option.Option.{Option}
use Rattle.bench.specs.Report.{Reported}
use Rattle.refusals.specs.declared.refusal.Refusal.{Refusal}

-- The promise of `replay_input`, and of `part_input`: so many octets were read, and the text is what the replay promises of their report.
pub record InputReplayed (report : List ℕ → List ℕ) (octets text₀ : List ℕ) (count : ℕ) (text₁ : List ℕ) : Type 0 where
  pub few : count ≤ length octets
  pub answer : Result ℕ Refusal
  pub told : Reported (report (take count octets)) text₀ text₁ answer

-- The promise of `read_full`: no more octets are counted than there is room for, and, of a reader whose octets are known, they are the next ones that
-- it had. How many they are comes from outside: any read may fail.
pub record ReadFull (left₀ left₁ : Option (List ℕ)) (octets : List ℕ) (count : ℕ) : Type 0 where
  pub few : count ≤ length octets
  pub read : Consumes left₀ left₁ (take count octets)
