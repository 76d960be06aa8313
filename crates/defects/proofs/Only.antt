-- No second answer: two outcomes that satisfy what a call promises are equal, for each public call.
-- Assumes nothing.
use Prim.Native.Nat.{ℕ}
use mathlib.Core.Path.{◌≡◌, ap, sym, ◌∙◌}
use mathlib.Core.List.{List}
use Rattle.std.specs.Prelude.{Result, Ok, Err, ⊤}
use Rattle.laws.proofs.Only as only
use Rattle.refusals.specs.declared.refusal.Refusal.{Refusal}
use Rattle.refusals.proofs.OnPaper.{number_only, answer_only, done_only}
use Rattle.parts.specs.declared.setup.Place.{Place}
use Rattle.parts.specs.declared.setup.Setup.{Setup}
use Rattle.defects.specs.Offence.{Found, found_on_paper}
use Rattle.defects.specs.Defect.{DecodedDefect, EncodedDefect}
use Rattle.defects.specs.Place.{Placed}
use Rattle.defects.specs.declared.defect.Defect.{Defect}
use Rattle.defects.specs.Encoding.{EncodedMap}
use Rattle.defects.specs.Sectors.{ReadMap, WroteMap}
use Rattle.defects.specs.Decoding.{DecodedMap}
use Rattle.defects.specs.declared.decoding.MapRead.{MapRead}
use Rattle.defects.specs.declared.offence.Offence.{Offence}

abbrev number_told : {A : Type 0} → Result A Found → ℕ
number_told (Ok value) = 0
number_told (Err found) = found.number

abbrev offset_told : {A : Type 0} → Result A Found → ℕ
offset_told (Ok value) = 0
offset_told (Err found) = found.offset

-- an offence on paper is one offence
pub found_only : {A : Type 0} {r s : Result A Offence} {p : Result A Found} → found_on_paper r ≡ p → found_on_paper s ≡ p → r ≡ s
found_only {r = r} {s = s} p q = same r s (p ∙ sym q)
  where
    same : {A : Type 0} (r s : Result A Offence) → found_on_paper r ≡ found_on_paper s → r ≡ s
    same (Ok x) (Ok y) e = cc
    same (Err x) (Err y) e =
        let refusal : x.refusal ≡ y.refusal = number_only (ap number_told e) in
        let offset : x.offset ≡ y.offset = ap offset_told e in
        ap Err (λ i. record { refusal = refusal i; offset = offset i })
    same (Ok x) (Err y) e = absurd (cc)
    same (Err x) (Ok y) e = absurd (cc)

pub decode_defect_only : (octets : List ℕ) (r s : Result Defect Refusal) → DecodedDefect octets r → DecodedDefect octets s → r ≡ s
decode_defect_only octets r s p q = answer_only p.answer q.answer

pub encode_defect_only : (d : Defect) (before after after' : List ℕ) (r s : Result ⊤ Refusal)
    → EncodedDefect d before after r → EncodedDefect d before after' s → (r ≡ s) × (after ≡ after')
encode_defect_only d before after after' r s p q = (done_only p.answer q.answer, only.answer_only p.slice q.slice)

pub map_place_only : (setup : Setup) (k : ℕ) (r s : Result Place Refusal) → Placed setup k r → Placed setup k s → r ≡ s
map_place_only setup k r s p q = answer_only p.answer q.answer

pub encode_map_only : (setup : Setup) (cylinder head : ℕ) (defects before after after' : List ℕ) (r s : Result ℕ Refusal)
    → EncodedMap setup cylinder head defects before after r → EncodedMap setup cylinder head defects before after' s → (r ≡ s) × (after ≡ after')
encode_map_only setup cylinder head defects before after after' r s p q = (answer_only p.answer q.answer, only.answer_only p.slice q.slice)

pub write_map_only : (setup : Setup) (cylinder head : ℕ) (defects before after after' : List ℕ) (r s : Result ⊤ Refusal)
    → WroteMap setup cylinder head defects before after r → WroteMap setup cylinder head defects before after' s → (r ≡ s) × (after ≡ after')
write_map_only setup cylinder head defects before after after' r s p q = (done_only p.answer q.answer, only.answer_only p.sectors q.sectors)

pub decode_map_only : (setup : Setup) (octets before after after' : List ℕ) (r s : Result MapRead Offence)
    → DecodedMap setup octets before after r → DecodedMap setup octets before after' s → (r ≡ s) × (after ≡ after')
decode_map_only setup octets before after after' r s p q = (found_only p.answer q.answer, only.answer_only p.slice q.slice)

pub read_map_only : (setup : Setup) (sectors before after after' : List ℕ) (r s : Result MapRead Offence)
    → ReadMap setup sectors before after r → ReadMap setup sectors before after' s → (r ≡ s) × (after ≡ after')
read_map_only setup sectors before after after' r s p q = (found_only p.answer q.answer, only.answer_only p.slice q.slice)
