-- `defects::front::front_of` meets its contract.
-- Assumes nothing.
use Prim.Native.Nat.{ℕ}
use mathlib.Core.List.{List}
use lib.ListN.{get_or}
use Rattle.defects.specs.Field.{front_of}
use Rattle.defects.proofs.front.front_of.Goals as goal

pub returns : goal.returns
unfolding front_of
returns c =
    let field : List ℕ = c.args.field.now in
    λ i. record {
      count = c.word_at.ensures i;
      flags = get_or field 2 0;
      copy = get_or field 3 0;
      sets = c.word_at-2.ensures i;
      set = c.word_at-3.ensures i;
      cylinder = c.long_at.ensures i;
      head = c.word_at-4.ensures i;
    }
