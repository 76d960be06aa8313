-- Each refusal of each call that does not decode a map is given exactly when its row holds and no row tested earlier does.
-- Assumes nothing.
use Prim.Native.Nat.{ℕ, suc}
use mathlib.Core.Path.{◌≡◌}
use mathlib.Core.List.{List}
use mathlib.Core.Logic.{◌↔◌}
use lib.ListN.{length}
use Rattle.std.specs.Prelude.{Result, ⊤}
use Rattle.laws.specs.Rows.{Given}
use Rattle.refusals.specs.Refusal.{refusal_in}
use Rattle.refusals.specs.declared.refusal.Refusal.{Refusal}
use Rattle.refusals.proofs.OnPaper.{exactly_on_paper, done_exactly}
use Rattle.parts.specs.declared.setup.Place.{Place}
use Rattle.parts.specs.declared.setup.Setup.{Setup}
use Rattle.defects.specs.Defect.{defect_rows, DecodedDefect, EncodedDefect}
use Rattle.defects.specs.Place.{place_rows, Placed}
use Rattle.defects.specs.declared.defect.Defect.{Defect}
use Rattle.defects.specs.Encoding.{encode_rows, EncodedMap}
use Rattle.defects.specs.Sectors.{write_rows, WroteMap}

pub decode_defect_exactly : (n : ℕ) (octets : List ℕ) (r : Result Defect Refusal) → DecodedDefect octets r
    → refusal_in r ≡ suc n ↔ Given (suc n) (defect_rows octets)
decode_defect_exactly n octets r d = exactly_on_paper (defect_rows octets) _ r d.answer n

pub encode_defect_exactly : (n : ℕ) (d : Defect) (before after : List ℕ) (r : Result ⊤ Refusal) → EncodedDefect d before after r
    → refusal_in r ≡ suc n ↔ Given (suc n) (defect_rows before)
encode_defect_exactly n d before after r e = done_exactly (defect_rows before) r e.answer n

pub map_place_exactly : (n : ℕ) (s : Setup) (k : ℕ) (r : Result Place Refusal) → Placed s k r → refusal_in r ≡ suc n ↔ Given (suc n) (place_rows s k)
map_place_exactly n s k r p = exactly_on_paper (place_rows s k) _ r p.answer n

pub encode_map_exactly : (n : ℕ) (setup : Setup) (cylinder head : ℕ) (defects before after : List ℕ) (r : Result ℕ Refusal)
    → EncodedMap setup cylinder head defects before after r → refusal_in r ≡ suc n ↔ Given (suc n) (encode_rows setup cylinder head defects (length before))
encode_map_exactly n setup cylinder head defects before after r e = exactly_on_paper (encode_rows setup cylinder head defects (length before)) _ r e.answer n

pub write_map_exactly : (n : ℕ) (setup : Setup) (cylinder head : ℕ) (defects before after : List ℕ) (r : Result ⊤ Refusal)
    → WroteMap setup cylinder head defects before after r → refusal_in r ≡ suc n ↔ Given (suc n) (write_rows setup cylinder head defects before)
write_map_exactly n setup cylinder head defects before after r e = done_exactly (write_rows setup cylinder head defects before) r e.answer n
