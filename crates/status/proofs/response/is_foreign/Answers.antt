-- `status::response::is_foreign` meets its contract: the masks leave the bits that `has_other` names, and the other octets are looked at in turn.
-- Assumes nothing.
use mathlib.Core.Path.{◌≡◌}
use mathlib.Core.Bool.{not}
use native.Mathlib.Omega.{arith}
use borrow.Author.Rules.{rules}
use lib.Dec.{eqb}
use lib.ListN.{get_or, take, drop}
use Rattle.std.specs.List.{list_any}
use Rattle.std.proofs.lemmas.Iterator.{YieldsList-from_slice}
use Rattle.std.proofs.lemmas.Iterator.Search.{any_from_yields_List}
use Rattle.std.proofs.Math.Bool.{or-false, or_assoc}
use Rattle.laws.proofs.Runs.{run_read}
use Rattle.status.specs.Response.{is_foreign}
use Rattle.status.proofs.Bits.{mask_two, mask_four}
use Rattle.status.proofs.response.is_foreign.Goals as goal

pub returns : goal.returns
unfolding is_foreign
returns c =
    let octets = c.args.octets.now in
    let rest : c.any.result ≡ list_any (λ octet. not (eqb octet 0)) (take 5 (drop 3 octets)) =
    any_from_yields_List (λ octet. not (eqb octet 0)) _ _ _ c.any.ensures.ran (YieldsList-from_slice _ c.iter.ensures.rest) (λ octet b k. search rules) in
    rw (
      rest,
      run_read octets 3 5 (omega arith),
      c.exception_octet.ensures,
      c.has_other-2.ensures,
      c.has_other.ensures,
      mask_two (get_or octets 1 0),
      mask_four (get_or octets 2 0),
    ) (simp (or-false, or_assoc))
