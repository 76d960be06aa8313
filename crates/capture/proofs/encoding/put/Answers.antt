-- `capture::encoding::put` meets its contract: after i turns, i octets are pasted.
-- Assumes nothing.
use Prim.Native.Nat.{◌+◌, ◌<◌}
use mathlib.Core.Path.{◌≡◌, refl}
use native.Mathlib.Numerals.{add-one}
use native.Mathlib.Omega.{arith}
use borrow.Author.Rules.{rules}
use lib.ListN.{length, length-set}
use lib.Seq.{paste-zero, paste-suc, take-length}
use Rattle.capture.proofs.encoding.put.Goals as goal

pub loop-i-init : goal.loop-i-init
loop-i-init c = let a = c.args in (search rules, refl, paste-zero a.out.now a.at a.octets.now)

pub loop-i-preserved : goal.loop-i-preserved
loop-i-preserved c =
    let l = c.loop-i in
    let a = c.args in
    let inside : a.at + l.i < length a.out.now = omega arith in (
      search rules,
      simp length-set l.invariant.1,
      rw (l.invariant.2, add-one, paste-suc a.out.now a.at a.octets.now l.i 0 inside (search rules)),
    )

pub returns : goal.returns
returns c =
    let octets = c.args.octets.now in
    let all : c.loop-i.i ≡ length octets = omega arith in
    rw (c.loop-i.invariant.2, all, take-length octets)
