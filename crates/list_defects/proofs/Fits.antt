-- The defects of a map that was decoded stand in the lent slice.
-- Assumes nothing.
use Prim.Native.Nat.{ℕ, ◌*◌, ◌≤◌}
use mathlib.Core.Path.{◌≡◌, ap, ◌∙◌}
use mathlib.Core.List.{List}
use native.Mathlib.Omega.{arith}
use lib.ListN.{length, drop, length-append}
use Rattle.std.specs.Prelude.{Ok}
use Rattle.parts.specs.declared.setup.Setup.{Setup}
use Rattle.defects.specs.Defect.{list_octets}
use Rattle.defects.specs.Decoding.{DecodedMap, decode_offence, defects_of, map_of}
use Rattle.defects.specs.declared.decoding.MapRead.{MapRead}
use Rattle.defects.proofs.Answers.{value_told}
use Rattle.defects.proofs.DefectOctets.{length_list}

pub told_within : {s : Setup} {octets before after : List ℕ} {map : MapRead} → DecodedMap s octets before after (Ok map) → length after ≡ length before
    → 12 * map.count ≤ length after
told_within {s} {octets} {before} {after} {map} told kept =
    let (none, same) = value_told (decode_offence s octets before) (map_of s octets) map told.answer in
    let listed = list_octets (defects_of s octets) in
    let slice = rw none at told.slice in
    omega (arith, ap (λ (m : MapRead). m.count) same, length_list (defects_of s octets), ap length slice ∙ length-append listed (drop (length listed) before))
