-- `defects::encoding::encode_map` meets its contract: at each `return` the tests that led there say which row holds first, or that none does.
-- Assumes nothing.
use Prim.Native.Nat.{◌/◌}
use mathlib.Core.Path.{◌≡◌, sym, ap, ◌∙◌}
use mathlib.Core.Bool.{false}
use native.Mathlib.Nat.{le-div_iff_mul-le}
use native.Mathlib.Omega.{arith}
use lib.ListN.{length}
use Rattle.laws.specs.Pick.{pick}
use Rattle.defects.specs.EncodeSteps.{Planned}
use Rattle.defects.specs.Encoding.{is_malformed}
use Rattle.laws.specs.Rows.{tells}
use Rattle.defects.proofs.EncodeRows.{Told, some_octets, length_told, lacks_octets, has_octets, planned, job_given, no_job, octets_fit, whole_map}
use Rattle.defects.proofs.encoding.encode_map.Goals as goal
use Rattle.defects.proofs.encoding.encode_map.Goals.{After-field_octets-size, In-Some}

pub returns-then-not-within_limits : goal.returns-then-not-within_limits
unfolding pick
returns-then-not-within_limits c = let outside = sym c.within_limits.ensures ∙ c.if-not-within_limits.true in record { answer = rw outside; slice = rw outside }

told : (c : After-field_octets-size) → let a = c.args in
    Told a.setup (length a.defects.now / 12) c.field_octets-size.result c.sets_for-sets.result
told c = record { limits = sym c.within_limits.ensures ∙ c.if-not-within_limits.false; sized = c.field_octets-size.ensures; counted = c.sets_for-sets.ensures }

right : (c : In-Some) → let a = c.args in
    (is_malformed a.setup a.storage_cylinder a.storage_head a.defects.now ≡ false) × (c.in-Some.job ≡ record { sets = c.sets_for-sets.result; cylinder = a.storage_cylinder; head = a.storage_head })
right c = let a = c.args in job_given _ c.in-Some.job _ (sym c.in-Some.is ∙ c.job_of.ensures)

ready : (c : In-Some) → let a = c.args in
    Planned a.setup (record { sets = c.sets_for-sets.result; cylinder = a.storage_cylinder; head = a.storage_head }) a.defects.now
ready c = planned (sym c.within_limits.ensures ∙ c.if-not-within_limits.false) c.sets_for-sets.ensures (right c).0

pub nonzero_div-out : goal.nonzero_div-out
nonzero_div-out c =
    some_octets (told (goal.at.nonzero_div-out c).After-field_octets-size)

pub returns-then-out-size : goal.returns-then-out-size
unfolding pick
returns-then-out-size c =
    let t = told (goal.at.returns-then-out-size c).After-field_octets-size in
    let small = t.limits in
    let short = lacks_octets t _ c.if-out-size.true in
    record { answer = rw (small, short); slice = rw (small, short) }

pub job_of-requires : goal.job_of-requires
job_of-requires c = (sym c.within_limits.ensures ∙ c.if-not-within_limits.false, c.sets_for-sets.ensures)

pub returns-in_default : goal.returns-in_default
unfolding pick
returns-in_default c =
    let a = c.args in
    let t = told (goal.at.returns-in_default c).After-field_octets-size in
    let room = has_octets t _ c.if-out-size.false in
    let small = t.limits in
    let wrong = no_job (is_malformed a.setup a.storage_cylinder a.storage_head a.defects.now) _ (sym c.in_default.is ∙ c.job_of.ensures) in
    record { answer = rw (small, room, wrong); slice = rw (small, room, wrong) }

pub put_sets-requires : goal.put_sets-requires
put_sets-requires c =
    let here = goal.at.put_sets-requires c in
    let room = has_octets (told here.After-field_octets-size) _ c.if-out-size.false in
    rw (right here.In-Some).1 (ready here.In-Some, octets_fit (ready here.In-Some) room)

pub overflow_mul-result : goal.overflow_mul-result
overflow_mul-result c =
    omega (arith, (le-div_iff_mul-le (some_octets (told (goal.at.overflow_mul-result c).After-field_octets-size))).0 c.if-out-size.false)

pub returns : goal.returns
unfolding pick
returns c =
    let here = goal.at.returns c in
    let t = told here.After-field_octets-size in
    let room = has_octets t _ c.if-out-size.false in
    let small = t.limits in
    let (fine, job) = right here.In-Some in
    let put = rw job at c.put_sets.ensures in
    record { answer = rw (small, room, fine) (ap tells (length_told t)); slice = rw (small, room, fine) (put ∙ whole_map c.args.out.now (ready here.In-Some)) }
