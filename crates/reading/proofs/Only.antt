-- No second text: of the same octets read, two texts that satisfy what `replay_input`, or `part_input`, promises are equal. What is read comes from outside.
-- Assumes nothing.
use Rattle.std.proofs.Common.{◌≡◌, ℕ, List, ◌++◌, Option, None, Some, take, drop, sym, ap, ◌∙◌, drop_at, length-take-le}
use Rattle.std.proofs.lemmas.List.{take_at}
use Rattle.bench.proofs.Only.{replay_only}
use Rattle.reading.specs.Input.{InputReplayed, ReadFull}

pub replay_input_only : {report : List ℕ → List ℕ} {octets text₀ : List ℕ} {count : ℕ} {text₁ text₂ : List ℕ} → InputReplayed report octets text₀ count text₁
    → InputReplayed report octets text₀ count text₂ → text₁ ≡ text₂
replay_input_only {report} {octets} {text₀} {count} {text₁} {text₂} h k =
    (replay_only (report (take count octets)) text₀ text₁ text₂ h.answer k.answer h.told k.told).1

-- Of a reader whose octets are known, so many read are no others, and no other octets are left. How many are read comes from outside.
pub read_full_only : {had : List ℕ} (left₁ left₂ : Option (List ℕ)) {octets₁ octets₂ : List ℕ} {count : ℕ} → ReadFull (Some had) left₁ octets₁ count
    → ReadFull (Some had) left₂ octets₂ count → (take count octets₁ ≡ take count octets₂) × (left₁ ≡ left₂)
read_full_only None left₂ h k = absurd h.read
read_full_only (Some rest₁) None h k = absurd k.read
read_full_only (Some rest₁) (Some rest₂) {octets₁} {octets₂} {count} h k =
    let same : take count octets₁ ++ rest₁ ≡ take count octets₂ ++ rest₂ = sym h.read ∙ k.read in
    let long₁ = length-take-le count octets₁ h.few in
    let long₂ = length-take-le count octets₂ k.few in (
      sym (take_at _ rest₁ count long₁) ∙ ap (take count) same ∙ take_at _ rest₂ count long₂,
      ap Some (sym (drop_at _ rest₁ count long₁) ∙ ap (drop count) same ∙ drop_at _ rest₂ count long₂),
    )
