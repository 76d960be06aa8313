-- `defects::storing::put` meets its contract: after i turns, 2 * i octets are pasted.
-- Assumes nothing.
use Prim.Native.Nat.{ℕ, suc, ◌+◌, ◌*◌, ◌<◌}
use mathlib.Core.Path.{◌≡◌}
use mathlib.Core.List.{List}
use native.Mathlib.Omega.{arith}
use lib.ListN.{length, get_or, set, length-set}
use lib.Seq.{paste, paste-zero, paste-suc, take-length}
use Rattle.defects.proofs.storing.put.Goals as goal

-- a turn: two octets more
two_more : (out : List ℕ) (at : ℕ) (octets : List ℕ) (i : ℕ) → at + 2 * i + 1 < length out → 2 * i + 1 < length octets
    → set (set (paste out at octets (2 * i)) (at + 2 * i) (get_or octets (2 * i) 0)) (at + 2 * i + 1) (get_or octets (2 * i + 1) 0) ≡ paste out at octets (2 * (i + 1))
two_more out at octets i h l =
    let here : at + 2 * i + 1 ≡ at + suc (2 * i) = omega arith in
    let there : 2 * i + 1 ≡ suc (2 * i) = omega arith in
    let more : 2 * (i + 1) ≡ suc (suc (2 * i)) = omega arith in
    rw (here, there, more, paste-suc out at octets (2 * i) 0 (omega arith) (omega arith)) (paste-suc out at octets (suc (2 * i)) 0 (omega arith) (omega arith))

pub loop-i-init : goal.loop-i-init
loop-i-init c = paste-zero c.args.out.now c.args.at c.args.octets.now

pub bounds-out-at-in-loop-i : goal.bounds-out-at-in-loop-i
bounds-out-at-in-loop-i c = simp length-set (omega arith)

pub loop-i-preserved : goal.loop-i-preserved
loop-i-preserved c = rw c.loop-i.invariant (two_more c.args.out.now c.args.at c.args.octets.now c.loop-i.i (omega arith) (omega arith))

pub returns : goal.returns
returns c =
    let octets = c.args.octets.now in
    let all : 2 * c.loop-i.i ≡ length octets = omega arith in
    rw (c.loop-i.invariant, all, take-length octets)
