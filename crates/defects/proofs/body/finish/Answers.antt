-- `defects::body::finish` meets its contract: the copy's number is stored, and the CRC behind what it is of.
-- Assumes nothing.
use Prim.Native.Nat.{ℕ, ◌-◌}
use mathlib.Core.Path.{◌≡◌, sym, ◌∙◌}
use mathlib.Core.List.{List, [], ◌++◌, append-nil}
use native.Mathlib.Omega.{arith}
use lib.ListN.{length, take, drop, set, length-set, length-drop, drop_of_length-le}
use lib.Seq.{length-take-le, take-set-lt}
use Rattle.defects.specs.EncodeSteps.{finished}
use Rattle.defects.proofs.HighOctets.{word_octets_lem}
use Rattle.defects.proofs.body.finish.Goals as goal

pub slice_bounds-crc-end : goal.slice_bounds-crc-end
slice_bounds-crc-end c = simp length-set (omega arith)

pub slice_bounds-crc-end-2 : goal.slice_bounds-crc-end-2
slice_bounds-crc-end-2 c = sym (length-take-le _ _ (simp length-set (omega arith)))

-- what is written up to the end
ended : (list part : List ℕ) (at : ℕ) → take at list ++ (part ++ drop (length list - at) (drop at list)) ≡ take at list ++ part
ended list part at =
    let none : drop (length list - at) (drop at list) ≡ [] = drop_of_length-le (drop at list) {i = length list - at} (simp length-drop (omega arith)) in
    rw (none, append-nil part)

pub returns : goal.returns
unfolding finished
returns c =
    let field = c.args.field.now in
    let copy = c.args.copy in
    let end = length field - 2 in
    ended (set field 3 copy) _ end
    ∙ rw (c.copy_from_slice.ensures.after, c.to_be_bytes.ensures ∙ word_octets_lem c.crc-remainder.result, c.crc-remainder.ensures, take-set-lt end field 3 copy (omega arith))
