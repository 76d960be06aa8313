-- `defects::sectors::load_words` meets its contract: after i turns, the words of i more octets are loaded.
-- Assumes nothing.
use Prim.Native.Nat.{◌+◌, ◌/◌, ◌%◌}
use mathlib.Core.Path.{◌≡◌, refl}
use native.Mathlib.Omega.{arith}
use lib.ListN.{get_or, length-set}
use Rattle.defects.proofs.Loading.{word_loaded}
use Rattle.defects.proofs.sectors.load_words.Goals as goal

pub loop-i-init : goal.loop-i-init
loop-i-init c = refl

pub bounds-field-i-in-loop-i : goal.bounds-field-i-in-loop-i
bounds-field-i-in-loop-i c = simp length-set (omega arith)

pub loop-i-preserved : goal.loop-i-preserved
loop-i-preserved c =
    let a = c.args in
    let i = c.loop-i.i in
    let word = get_or a.sectors.now (a.start + i) 0 in
    let octets = c.to_be_bytes.ensures in
    let high : get_or c.to_be_bytes.result 0 0 ≡ word / 256 = rw octets (omega (arith, c.type_inv.sectors (a.start + i))) in
    let low : get_or c.to_be_bytes.result 1 0 ≡ word % 256 = rw octets in
    rw (high, low) (word_loaded c.loop-i.field a.sectors.now a.start i (omega arith) (omega arith) c.loop-i.invariant)

pub returns : goal.returns
returns c =
    let all : c.args.count ≡ c.loop-i.i = omega arith in
    rw all c.loop-i.invariant
