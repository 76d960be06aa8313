-- What decoding answers: the offence that was found, or what the map tells.
-- Assumes nothing.
use Prim.Native.Nat.{ℕ}
use mathlib.Core.Path.{◌≡◌, refl, sym, ◌∙◌}
use mathlib.Core.List.{List, [], ◌∷◌}
use lib.ListN.{length}
use Rattle.std.specs.Prelude.{Result, Ok, Err}
use Rattle.std.proofs.Math.Option.{Option, some, none}
use Rattle.laws.specs.Lists.{written_over}
use Rattle.parts.specs.declared.setup.Setup.{Setup}
use Rattle.defects.specs.Offence.{Test, Found, no_offence, first_of, found_on_paper, offence_in, offence_or}
use Rattle.defects.specs.Defect.{list_octets}
use Rattle.defects.specs.Decoding.{map_told, decode_offence, DecodedMap}
use Rattle.defects.specs.Sectors.{read_offence, ReadMap}
use Rattle.defects.specs.Source.{string_in, is_alone}
use Rattle.defects.specs.Walk.{defects_before, map_tests}
use Rattle.defects.specs.Steps.{EndsAt, MapListed}
use Rattle.defects.specs.declared.decoding.MapRead.{MapRead}
use Rattle.defects.specs.declared.offence.Offence.{Offence}
use Rattle.defects.specs.declared.source.Source.{Source}
use Rattle.defects.specs.declared.walk.Walk.{Walk}
use Rattle.defects.proofs.Offences.{first_behind}

-- ---- an answer on paper

-- its offence is the first one
pub offence_told : {A : Type 0} (x : Option Found) (value : A) (r : Result A Offence) → found_on_paper r ≡ offence_or x value → offence_in r ≡ x
offence_told none value (Ok y) e = refl
offence_told (some found) value (Err offence) e = cc
offence_told none value (Err offence) e = absurd (cc)
offence_told (some found) value (Ok y) e = absurd (cc)

-- a value, where there is none
pub value_told : {A : Type 0} (x : Option Found) (value answer : A) → found_on_paper (Ok answer) ≡ offence_or x value → (x ≡ no_offence) × (answer ≡ value)
value_told none value answer e = (refl, cc)
value_told (some found) value answer e = absurd (cc)

-- an offence, and nothing written
pub stopped : {s : Setup} {octets before : List ℕ} (offence : Offence) → offence_in {A = MapRead} (Err offence) ≡ decode_offence s octets before
    → DecodedMap s octets before before (Err offence)
stopped offence e = record { answer = rw (← e); slice = rw (← e) }

pub reading_stopped : {s : Setup} {sectors before : List ℕ} (offence : Offence) → offence_in {A = MapRead} (Err offence) ≡ read_offence s sectors before
    → ReadMap s sectors before before (Err offence)
reading_stopped offence e = record { answer = rw (← e); slice = rw (← e) }

-- behind 9 and 10
pub behind_rows : (nine ten : Test) (tests : List Test) → no_offence ≡ first_of (nine ∷ []) → no_offence ≡ first_of (ten ∷ []) → first_of (nine ∷ ten ∷ tests) ≡ first_of tests
behind_rows nine ten tests e f = first_behind (nine ∷ []) (ten ∷ tests) (sym e) ∙ first_behind (ten ∷ []) tests (sym f)

-- ---- the map

module _ (s : Setup) (source : Source) (before : List ℕ) where
  pub refused_map : (offence : Offence) → offence_in {A = Walk} (Err offence) ≡ first_of (map_tests (is_alone source) s (string_in s source))
      → MapListed s source before before (Err offence)
  refused_map offence e = record { answer = rw (← e); slice = rw (← e) }

  module _ (e : no_offence ≡ first_of (map_tests (is_alone source) s (string_in s source))) where
    pub told_map : (after : List ℕ) (fields count : ℕ) (w : Walk) → EndsAt s (string_in s source) fields w
        → count ≡ length (defects_before s (string_in s source) fields) → after ≡ written_over before (list_octets (defects_before s (string_in s source) fields))
        → MapListed s source before after (Ok (map_told count w.cylinder w.head))
    told_map after fields count w ends many slice =
        record { answer = rw (← e, many, ends.walk, ends.defects); slice = rw (← e) (slice ∙ rw ends.defects) }
