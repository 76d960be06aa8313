-- `defects::body::order_of` meets its contract: what is known of the defects passed, and those left, tell what all of them do.
-- Assumes nothing.
use Prim.Native.Nat.{ℕ, ◌+◌, ◌-◌, ◌*◌, ◌<◌, max}
use mathlib.Core.Path.{◌≡◌, refl, sym, ap, ◌∙◌}
use mathlib.Core.Bool.{Bool, true, false, ◌||◌}
use mathlib.Core.List.{List, [], ◌∷◌}
use native.Mathlib.Omega.{arith}
use lib.Dec.{ltb}
use Rattle.defects.specs.Defect.{address, defect_at}
use Rattle.defects.specs.Encoding.{list_from, is_unordered}
use Rattle.defects.specs.EncodeSteps.{AllNear, Ordered}
use Rattle.defects.specs.declared.body.Run.{Run}
use Rattle.defects.specs.declared.defect.Defect.{Defect}
use Rattle.defects.proofs.Listed.{listed_first}
use Rattle.defects.proofs.body.order_of.Invariants.{Known, Passing}
use Rattle.defects.proofs.body.order_of.Goals as goal

or_later : (a b c : Bool) → a || (b || c) ≡ (a || b) || c
or_later true b c = refl
or_later false b c = refl

one_more : {least : ℕ} {all rest : List Defect} {d : Defect} {here above : ℕ} {unordered : Bool} → here ≡ address d → Known least all (d ∷ rest) unordered above
    → Known least all rest (unordered || ltb here above) (max above (here + 1))
unfolding is_unordered
one_more {d = d} {above = above} {unordered} e k =
    record {
      unordered' = k.unordered' ∙ rw e (or_later unordered (ltb (address d) above) _);
      next = k.next ∙ rw e;
    }

or_none : (a : Bool) → a ≡ a || false
or_none true = refl
or_none false = refl

all_passed : {least : ℕ} {all : List Defect} {unordered : Bool} {above : ℕ} → Known least all [] unordered above → Ordered least all (record { unordered = unordered; least = above })
unfolding is_unordered
all_passed {unordered = unordered} k = record { unordered = or_none unordered ∙ sym k.unordered'; next = sym k.next }

at_first : (least : ℕ) (octets : List ℕ) (run : Run) → AllNear (list_from octets run.at run.count) → Passing least octets run false least 0
at_first least octets run near =
    let at : run.at + 12 * 0 ≡ run.at = omega arith in
    let all : run.count - 0 ≡ run.count = omega arith in
    record { near = rw (at, all) near; known = rw (at, all) (record { unordered' = refl; next = refl }) }

pub loop-i-init : goal.loop-i-init
loop-i-init c = at_first c.args.least c.args.defects.now c.args.run c.requires.1

-- this defect and those behind it
first_left : (octets : List ℕ) (run : Run) (i : ℕ) → i < run.count
    → list_from octets (run.at + 12 * i) (run.count - i) ≡ defect_at (run.at + 12 * i) octets ∷ list_from octets (run.at + 12 * (i + 1)) (run.count - (i + 1))
first_left octets run i h =
    let on : run.at + 12 * i + 12 ≡ run.at + 12 * (i + 1) = omega arith in
    let less : run.count - i - 1 ≡ run.count - (i + 1) = omega arith in
    rw (← on, ← less) (listed_first octets (run.at + 12 * i) (run.count - i) (omega arith))

pub address_of-address-requires : goal.address_of-address-requires
address_of-address-requires c =
    let near = rw (first_left c.args.defects.now c.args.run c.loop-i.i c.loop-i-test.true) at c.loop-i.invariant.near in
    rw c.defect_at.ensures near.0

pub loop-i-preserved : goal.loop-i-preserved
loop-i-preserved c =
    let split = first_left c.args.defects.now c.args.run c.loop-i.i c.loop-i-test.true in
    let told = c.address_of-address.ensures.0 ∙ ap address c.defect_at.ensures in
    record { near = (rw split at c.loop-i.invariant.near).1; known = rw c.max-above.ensures (one_more told (rw split at c.loop-i.invariant.known)) }

pub returns : goal.returns
unfolding list_from
returns c =
    let none : c.args.run.count - c.loop-i.i ≡ 0 = omega arith in
    all_passed (rw none at c.loop-i.invariant.known)
