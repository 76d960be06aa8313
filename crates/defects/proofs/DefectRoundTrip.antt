-- A defect and its octets and their decodings undo each other: `specs/DefectRoundTrip` proved.
-- Assumes nothing.
use Prim.Native.Nat.{ℕ, ◌≤◌}
use mathlib.Core.Path.{◌≡◌, refl, ◌∙◌}
use mathlib.Core.List.{List, ◌++◌}
use native.Mathlib.Omega.{arith}
use borrow.Author.Tests.{le-ltb, ltb-false}
use lib.ListN.{length, take, length-append}
use Rattle.laws.specs.Lists.{written_over}
use Rattle.laws.specs.Octets.{AllOctets}
use Rattle.laws.proofs.Rows.{none_given, all_passed}
use Rattle.defects.specs.Defect.{defect_octets, defect_rows, DecodedDefect, EncodedDefect}
use Rattle.defects.specs.DefectRoundTrip.{Fitting, DefectRoundTrip}
use Rattle.defects.specs.declared.defect.Defect.{Defect}
use Rattle.refusals.specs.declared.refusal.Refusal.{Refusal}
use Rattle.refusals.proofs.OnPaper.{value_given, done}
use Rattle.std.specs.Prelude.{Result, Ok, ⊤}
use Rattle.defects.proofs.DefectOctets.{length_defect_octets, octets_of_defect, defect_of_octets}

has_written : {d : Defect} {before after : List ℕ} {answer : Result ⊤ Refusal} → 12 ≤ length before → EncodedDefect d before after answer
    → (answer ≡ Ok tt) × (after ≡ written_over before (defect_octets d))
has_written {d} {before} h e =
    let free = none_given (defect_rows before) (le-ltb _ _ h, tt) in
    (done (e.answer ∙ free), e.slice ∙ rw free)

decoded_octets : (octets : List ℕ) (d : Defect) → AllOctets octets → DecodedDefect octets (Ok d) → defect_octets d ≡ take 12 octets
decoded_octets octets d all e =
    let (none, same) = value_given (defect_rows octets) e.answer in
    let (long, end) = all_passed (defect_rows octets) refl none in
    rw same (octets_of_defect 0 octets (ltb-false _ _ long) all)

encoded_defect : (d : Defect) (rest : List ℕ) → Fitting d → DecodedDefect (defect_octets d ++ rest) (Ok d)
encoded_defect d rest f =
    let octets = defect_octets d ++ rest in
    let long : 12 ≤ length octets = omega (arith, length-append (defect_octets d) rest, length_defect_octets d) in
    let free = none_given (defect_rows octets) (le-ltb _ _ long, tt) in
    record { answer = rw (free, defect_of_octets d rest f) }

pub defect_round_trip : DefectRoundTrip
defect_round_trip =
    record {
      encode_decode = λ octets before after d answer all e h w. rw (← (decoded_octets octets d all e)) (has_written h w);
      decode_encode = λ before after d answer f h w. let (is, slice) = has_written h w in (is, rw slice (encoded_defect d _ f));
    }
