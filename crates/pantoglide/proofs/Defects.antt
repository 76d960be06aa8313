-- The defect map on numbers and slices: from what `defects` answers to the promises of `pg_decode_defect` to `pg_write_map`.
-- Assumes nothing.
use Prim.Native.Nat.{ℕ, ◌/◌}
use mathlib.Core.Path.{◌≡◌, refl, sym, ap, ◌∙◌}
use mathlib.Core.List.{List}
use lib.ListN.{length}
use Rattle.std.specs.Prelude.{⊤, Result, Ok, Err}
use Rattle.std.proofs.Math.Option.{Option}
use Rattle.laws.specs.Rows.{unless_refused}
use Rattle.laws.specs.Lists.{written_over}
use Rattle.refusals.specs.Refusal.{number, refusal_in}
use Rattle.refusals.specs.declared.refusal.Refusal.{Refusal}
use Rattle.refusals.proofs.OnPaper.{value_given, refusal_given, left_as_it_was}
use Rattle.parts.specs.declared.setup.Setup.{Setup}
use Rattle.parts.specs.declared.setup.Place.{Place}
use Rattle.defects.specs.Offence.{Found, number_in, offset_in, found_on_paper, offence_or, unless_found}
use Rattle.defects.specs.Defect.{defect_at, defect_rows, list_octets, DecodedDefect, EncodedDefect}
use Rattle.defects.specs.Place.{place_of, place_rows, Placed}
use Rattle.defects.specs.Decoding.{defects_of, map_of}
use Rattle.defects.specs.Encoding.{map_length, encode_rows, EncodedMap}
use Rattle.defects.specs.Sectors.{WroteMap}
use Rattle.defects.specs.declared.defect.Defect.{Defect}
use Rattle.defects.specs.declared.decoding.MapRead.{MapRead}
use Rattle.defects.specs.declared.offence.Offence.{Offence}
use Rattle.defects.proofs.Answers.{offence_told, value_told}
use Rattle.pantoglide.specs.Defects.{DefectTold, DefectMade, PlaceTold, MapAnswered, MapMade, MapPut}

-- what is lent stays as it was
kept : {A : Type 0} (refusal : Refusal) {n : ℕ} (old new : A) → n ≡ number refusal → old ≡ unless_refused n old new
kept refusal old new e = sym (left_as_it_was refusal new e)

-- ---- calls that refuse by rows

pub defect_told : {octets : List ℕ} {d : Defect} {cylinder₀ head₀ offset₀ length₀ : ℕ} → DecodedDefect octets (Ok d)
    → DefectTold octets cylinder₀ head₀ offset₀ length₀ 0 d.cylinder d.head d.offset d.length
defect_told {octets} h =
    let (none, same) = value_given (defect_rows octets) h.answer in
    record { refusal = sym none; cylinder = rw same; head = rw same; offset = rw same; length = rw same }

pub defect_not_told : {octets : List ℕ} {refusal : Refusal} {n cylinder₀ head₀ offset₀ length₀ : ℕ} → DecodedDefect octets (Err refusal) → n ≡ number refusal
    → DefectTold octets cylinder₀ head₀ offset₀ length₀ n cylinder₀ head₀ offset₀ length₀
defect_not_told {octets} {refusal} h e =
    let given = refusal_given (defect_rows octets) refusal (defect_at 0 octets) h.answer in
    record { refusal = e ∙ sym given; cylinder = kept refusal _ _ e; head = kept refusal _ _ e; offset = kept refusal _ _ e; length = kept refusal _ _ e }

pub defect_made : {cylinder head offset length n : ℕ} {before after : List ℕ} {r : Result ⊤ Refusal}
    → EncodedDefect (record { cylinder = cylinder; head = head; offset = offset; length = length }) before after r → n ≡ refusal_in r
    → DefectMade cylinder head offset length before n after
defect_made h e = record { refusal = e ∙ h.answer; octets = rw (e ∙ h.answer) h.slice }

pub place_told : {s : Setup} {k : ℕ} {p : Place} {cylinder₀ head₀ sector₀ : ℕ} → Placed s k (Ok p)
    → PlaceTold s k cylinder₀ head₀ sector₀ 0 p.cylinder p.head p.sector
place_told {s} {k} h =
    let (none, same) = value_given (place_rows s k) h.answer in
    record { refusal = sym none; cylinder = rw same; head = rw same; sector = rw same }

pub place_not_told : {s : Setup} {k n cylinder₀ head₀ sector₀ : ℕ} {refusal : Refusal} → Placed s k (Err refusal) → n ≡ number refusal
    → PlaceTold s k cylinder₀ head₀ sector₀ n cylinder₀ head₀ sector₀
place_not_told {s} {k} {refusal = refusal} h e =
    let given = refusal_given (place_rows s k) refusal (place_of s k) h.answer in
    record { refusal = e ∙ sym given; cylinder = kept refusal _ _ e; head = kept refusal _ _ e; sector = kept refusal _ _ e }

pub map_made : {s : Setup} {cylinder head size size₀ : ℕ} {defects before after : List ℕ}
    → EncodedMap s cylinder head defects before after (Ok size) → MapMade s cylinder head defects before size₀ 0 after size
map_made {s} {cylinder} {head} {defects = defects} {before} h =
    let (none, same) = value_given (encode_rows s cylinder head defects (length before)) h.answer in
    record { refusal = sym none; out = rw none at h.slice; size = same }

pub map_not_made : {s : Setup} {cylinder head n size₀ : ℕ} {refusal : Refusal} {defects before after : List ℕ}
    → EncodedMap s cylinder head defects before after (Err refusal) → n ≡ number refusal → MapMade s cylinder head defects before size₀ n after size₀
map_not_made {s} {cylinder} {head} {refusal = refusal} {defects} {before} h e =
    let given = refusal_given (encode_rows s cylinder head defects (length before)) refusal (map_length s (length defects / 12)) h.answer in
    record { refusal = e ∙ sym given; out = rw (e ∙ sym given) h.slice; size = kept refusal _ _ e }

pub map_put : {s : Setup} {cylinder head n : ℕ} {defects before after : List ℕ} {r : Result ⊤ Refusal} → WroteMap s cylinder head defects before after r
    → n ≡ refusal_in r → MapPut s cylinder head defects before n after
map_put h e = record { refusal = e ∙ h.answer; sectors = rw (e ∙ h.answer) h.sectors }

-- ---- calls that report an offence

pub map_told : {s : Setup} {octets before after : List ℕ} {offence : Option Found} {map : MapRead} {count₀ cylinder₀ head₀ offset₀ : ℕ}
    → found_on_paper (Ok map) ≡ offence_or offence (map_of s octets) → after ≡ unless_found offence before (written_over before (list_octets (defects_of s octets)))
    → MapAnswered s octets offence before count₀ cylinder₀ head₀ offset₀ 0 after map.count map.storage_cylinder map.storage_head offset₀
map_told {s} {octets} {offence = offence} {map} answer slice =
    let (none, same) = value_told offence (map_of s octets) map answer in
    record { refusal = sym (ap number_in none); defects = rw none at slice; count = rw same; cylinder = rw same; head = rw same; offset = refl }

pub map_not_told : {s : Setup} {octets before after : List ℕ} {first : Option Found} (offence : Offence) {n count₀ cylinder₀ head₀ offset₀ : ℕ}
    → found_on_paper (Err offence) ≡ offence_or first (map_of s octets) → after ≡ unless_found first before (written_over before (list_octets (defects_of s octets)))
    → n ≡ number offence.refusal → MapAnswered s octets first before count₀ cylinder₀ head₀ offset₀ n after count₀ cylinder₀ head₀ offence.offset
map_not_told {s} {octets} {first = first} offence answer slice e =
    let told = offence_told first (map_of s octets) (Err offence) answer in
    record {
      refusal = e ∙ ap number_in told;
      defects = rw (← told) at slice ∙ kept offence.refusal _ _ e;
      count = kept offence.refusal _ _ e;
      cylinder = kept offence.refusal _ _ e;
      head = kept offence.refusal _ _ e;
      offset = ap offset_in told ∙ kept offence.refusal _ _ e;
    }
