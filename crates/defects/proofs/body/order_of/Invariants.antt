-- `defects::body::order_of` meets its contract: what is known of the defects passed, and those left, tell what all of them do.
-- Assumes nothing.
use Prim.Native.Nat.{ℕ, ◌+◌, ◌-◌, ◌*◌}
use mathlib.Core.Path.{◌≡◌}
use mathlib.Core.Bool.{Bool, ◌||◌}
use mathlib.Core.List.{List}
use Rattle.defects.specs.Defect.{behind_all}
use Rattle.defects.specs.Encoding.{list_from, is_unordered}
use Rattle.defects.specs.EncodeSteps.{AllNear}
use Rattle.defects.specs.declared.body.Run.{Run}
use Rattle.defects.specs.declared.defect.Defect.{Defect}
use Rattle.defects.proofs.body.order_of.Given as goal

-- what is known behind some defects, with the rest to come
pub record Known (least : ℕ) (all rest : List Defect) (unordered : Bool) (above : ℕ) : Type 0 where
  pub unordered' : is_unordered least all ≡ unordered || is_unordered above rest
  pub next : behind_all least all ≡ behind_all above rest

pub record Passing (least : ℕ) (octets : List ℕ) (run : Run) (unordered : Bool) (above i : ℕ) : Type 0 where
  pub near : AllNear (list_from octets (run.at + 12 * i) (run.count - i))
  pub known : Known least (list_from octets run.at run.count) (list_from octets (run.at + 12 * i) (run.count - i)) unordered above

abbrev pub invariant-loop-i : goal.invariant-loop-i
invariant-loop-i l = Passing l.least l.defects l.run l.unordered l.above l.i
