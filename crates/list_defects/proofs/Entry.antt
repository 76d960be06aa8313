-- Twelve octets are a defect.
-- Assumes nothing.
use Prim.Native.Nat.{ℕ, ◌≤◌}
use mathlib.Core.Path.{◌≡◌}
use mathlib.Core.List.{List}
use lib.ListN.{length}
use borrow.Author.Tests.{le-ltb}
use Rattle.std.specs.Prelude.{Result, Ok}
use Rattle.laws.proofs.Rows.{none_given}
use Rattle.refusals.specs.declared.refusal.Refusal.{Refusal}
use Rattle.refusals.proofs.OnPaper.{answer_only}
use Rattle.defects.specs.Defect.{defect_at, defect_rows, DecodedDefect}
use Rattle.defects.specs.declared.defect.Defect.{Defect}

pub never_refused : {octets : List ℕ} {r : Result Defect Refusal} → 12 ≤ length octets → DecodedDefect octets r → r ≡ Ok (defect_at 0 octets)
never_refused {octets} room told = answer_only told.answer (rw (none_given (defect_rows octets) (le-ltb (length octets) 12 room, tt)))
