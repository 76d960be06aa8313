-- `defects::entries::judge_entry` meets its contract: each test is a row.
-- Assumes nothing.
use native.Mathlib.Omega.{arith}
use borrow.Author.Tests.{leb-false}
use Rattle.parts.proofs.Bounds.{limits}
use Rattle.defects.specs.Judging.{entry_tests}
use Rattle.defects.proofs.Offences.{one_holds, one_passed, not_held, passed_on}
use Rattle.defects.proofs.entries.judge_entry.Goals as goal

pub returns-in_err-refuse_if : goal.returns-in_err-refuse_if
unfolding entry_tests
returns-in_err-refuse_if c = rw (passed_on c.from_residual.ensures) (record { offence = one_holds _ _ c.in_err-refuse_if.ensures; next = tt })

pub address_of-address-requires : goal.address_of-address-requires
address_of-address-requires c =
    let few = limits c.args.setup c.requires.0 in
    omega (arith, leb-false _ _ (not_held _ c.in_ok-refuse_if.ensures))

pub returns-in_err-refuse_if-2 : goal.returns-in_err-refuse_if-2
unfolding entry_tests
returns-in_err-refuse_if-2 c =
    rw (passed_on c.from_residual-in_err-refuse_if-2.ensures)
    (record { offence = rw (← c.address_of-address.ensures.0) (one_passed _ _ c.in_ok-refuse_if.ensures (one_holds _ _ c.in_err-refuse_if-2.ensures)); next = tt })

pub returns-in_err-refuse_if-3 : goal.returns-in_err-refuse_if-3
unfolding entry_tests
returns-in_err-refuse_if-3 c =
    rw (passed_on c.from_residual-in_err-refuse_if-3.ensures)
    (record { offence = rw (← c.address_of-address.ensures.0) (one_passed _ _ c.in_ok-refuse_if.ensures (one_passed _ _ c.in_ok-refuse_if-2.ensures c.in_err-refuse_if-3.ensures)); next = tt })

pub returns : goal.returns
unfolding entry_tests
returns c =
    let told = c.address_of-address.ensures.0 in
    record { offence = rw (← told) (one_passed _ _ c.in_ok-refuse_if.ensures (one_passed _ _ c.in_ok-refuse_if-2.ensures c.in_ok-refuse_if-3.ensures)); next = rw (← told) c.max.ensures }
