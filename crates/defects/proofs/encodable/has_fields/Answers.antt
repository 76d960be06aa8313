-- `defects::encodable::has_fields` meets its contract: three times the sets are no more than the data fields exactly if the sets are no more than a third of them.
-- Assumes nothing.
use Prim.Native.Nat.{ℕ, ◌*◌, ◌/◌}
use mathlib.Core.Path.{◌≡◌, refl, sym}
use mathlib.Core.Bool.{Bool, true, false}
use native.Mathlib.Omega.{arith}
use borrow.Author.Tests.{le-leb, lt-leb, leb-true, leb-false}
use lib.Dec.{leb}
use Rattle.defects.specs.Encoding.{fits}
use Rattle.defects.proofs.encodable.has_fields.Goals as goal

by_thirds : (a b : ℕ) → leb a (b / 3) ≡ leb (3 * a) b
by_thirds a b = by_test (leb a (b / 3)) refl
  where
    by_test : (test : Bool) → leb a (b / 3) ≡ test → test ≡ leb (3 * a) b
    by_test true e = let h = leb-true a (b / 3) e in sym (le-leb (3 * a) b (omega arith))
    by_test false e = let h = leb-false a (b / 3) e in sym (lt-leb (3 * a) b (omega arith))

pub returns : goal.returns
unfolding fits
returns c = rw (by_thirds c.args.sets c.data_fields.result, c.data_fields.ensures, c.slots_each.ensures.0, c.requires)
